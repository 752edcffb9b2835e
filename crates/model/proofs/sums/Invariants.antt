-- `model::sums` gives the eight sums. Invariant: those below i stand in r.
-- Assumes nothing.
use mathlib.Core.Path.{◌≡◌}
use Prim.Native.Nat.{ℕ, ◌+◌, ◌<◌}
use lib.ListN.{length, get_or}
use Rattle.model.proofs.sums.Given as goal

abbrev pub invariant-loop-i : goal.invariant-loop-i
invariant-loop-i l = (length l.r ≡ 8) × ((k : ℕ) → k < l.i → get_or l.r k 0 ≡ get_or l.a k 0 + get_or l.b k 0)
