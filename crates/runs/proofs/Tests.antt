-- The tests that the code makes, where no sum can wrap, are those of the definitions: how far apart two addresses are, and where a string
-- starts. By cases on the test.
-- Assumes nothing.
use mathlib.Core.Path.{◌≡◌, refl}
use mathlib.Core.Bool.{Bool, true, false, ◌&&◌}
use Prim.Native.Nat.{ℕ, ◌+◌, ◌-◌, ◌<◌, ◌≤◌}
use native.Mathlib.Decide.{dec_lt, dec_le}
use native.Mathlib.Omega.{arith}
use lib.Dec.{leb, ltb}
use borrow.Author.Tests.{lt-ltb, le-ltb, le-leb, lt-leb}
use Rattle.model.specs.Refusals.{overlap}

-- A string's start lies outside where a range of one byte there does.
pub start_outside_lem : (M s : ℕ) → ltb M (s + 1) ≡ leb M s
start_outside_lem M s = go (dec_le M s)
  where
    go : Dec (M ≤ s) → ltb M (s + 1) ≡ leb M s
    go (yes l) = rw (lt-ltb M (s + 1) (omega arith), le-leb M s l) refl
    go (no l) = rw (le-ltb M (s + 1) (omega arith), lt-leb M s (omega arith)) refl

-- ---- refusal 4: the ranges begin less than n apart

pub overlap-near : (dest src n : ℕ) → (dest - src) + (src - dest) < n → (overlap dest src n).holds ≡ true
overlap-near dest src n l =
    rw (lt-ltb 0 n (omega arith), lt-ltb dest (src + n) (omega arith), lt-ltb src (dest + n) (omega arith)) refl

never : (b : Bool) → b && false ≡ false
never true = refl
never false = refl

pub overlap_apart : (dest src n : ℕ) → n ≤ (dest - src) + (src - dest) → (overlap dest src n).holds ≡ false
overlap_apart dest src n l = go (dec_lt dest (src + n))
  where
    go : Dec (dest < src + n) → (ltb 0 n && ltb dest (src + n)) && ltb src (dest + n) ≡ false
    go (yes m) = rw (le-ltb src (dest + n) (omega arith)) (never (ltb 0 n && ltb dest (src + n)))
    go (no m) = rw (le-ltb dest (src + n) (omega arith), never (ltb 0 n)) refl
