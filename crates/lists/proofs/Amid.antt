-- Bytes among others: a part of what a cursor has ahead of it. A file of its own, as Safety is. Assumes nothing.
use mathlib.Core.Bool.{Bool, true, false}
use Prim.Native.Nat.{ℕ, ◌+◌, ◌≤◌}
use native.Mathlib.Omega.{arith}
use Rattle.model.specs.Lists.{chunk, past}
use Rattle.lists.proofs.Cursors.{Room}

-- The w bytes from b lie among the n bytes at a cursor.
pub record Among (up : Bool) (c n w b : ℕ) : Type 0 where
  pub low : chunk up c n ≤ b
  pub high : b + w ≤ chunk up c n + n

pub among : (up : Bool) (c n k m w b : ℕ) → Room up c n → k + m ≤ n → chunk up (past up c k) m ≤ b
    → b + w ≤ chunk up (past up c k) m + m → Among up c n w b
among true c n k m w b r l p q = record { low = omega arith; high = omega arith }
among false c n k m w b r l p q = record { low = omega arith; high = omega arith }
