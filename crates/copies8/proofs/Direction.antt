-- The direction of a copy, which a generic function has as a number.
-- Assumes nothing.
use mathlib.Core.Bool.{Bool, not}
use Prim.Native.Nat.{ℕ}
use lib.Dec.{eqb}

abbrev pub up : ℕ → Bool
up n = not (eqb n 0)
