-- An aligned access whose bytes are among those of a range fits where the range does. A file of its own, as Safety is. Assumes nothing.
use Prim.Native.Nat.{ℕ, ◌+◌, ◌≤◌}
use native.Mathlib.Omega.{arith}
use Rattle.model.specs.Fit.{Aligned, Fit, Range}

pub fit_in : {W k w a n : ℕ} (r : ℕ) → Range W k r n → Aligned W w a → r ≤ a → a + w ≤ r + n → Fit W k w a
fit_in r h p lo hi = record { aligned = p; range = record { few = h.few; inside = omega arith } }
