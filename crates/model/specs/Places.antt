-- Demand 3: the place at which compare and string length stop.
-- Assumes nothing.
use Rattle.std.specs.Prelude.{◌≡◌, Bool, true, false, ℕ, ◌<◌, ◌≤◌}

-- p is the first place below n at which the test holds; or n, and there is none.
pub record FirstAt (test : ℕ → Bool) (n p : ℕ) : Type 0 where
  pub bound : p ≤ n
  pub before : (i : ℕ) → i < p → test i ≡ false
  pub holds : p < n → test p ≡ true
