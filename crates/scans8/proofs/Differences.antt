-- The difference of two bytes is a number of 32 bits, and what is read back of it is the difference.
-- Assumes nothing.
use mathlib.Core.Path.{◌≡◌}
use mathlib.Core.Bool.{Bool, true, false, cond}
use Prim.Native.Nat.{ℕ, zero, suc, ◌-◌, ◌<◌}
use native.Mathlib.Omega.{arith}
use lib.Dec.{ltb}
use lib.IntN.{ℤ, pos, negsuc, ◌-ℤ◌}
use mir.Syntax.{w32}
use mir.Val.{SFits, to_z, of_z}
use mir.Facts.{to_z-of_z}

pub bytes_apart : (a b : ℕ) → a < 256 → b < 256 → SFits w32 (pos a -ℤ pos b)
bytes_apart a zero l m = record { sfits = omega arith }
bytes_apart a (suc b) l m = go (ltb a (suc b))
  where
    go : (t : Bool) → SFits w32 (cond t (negsuc (suc b - suc a)) (pos (a - suc b)))
    go true = record { sfits = omega arith }
    go false = record { sfits = omega arith }

-- A number of 32 bits that is the difference is read back as it is.
pub differ_read : (a b : ℕ) {z : ℤ} → a < 256 → b < 256 → z ≡ pos a -ℤ pos b → to_z w32 (of_z w32 z) ≡ pos a -ℤ pos b
differ_read a b l m e = rw e (to_z-of_z (bytes_apart a b l m))
