-- `model::sums` gives the eight sums. Invariant: those below i stand in r.
-- Assumes nothing.
use mathlib.Core.Path.{sym, ◌∙◌}
use native.Mathlib.Omega.{arith}
use Rattle.model.proofs.TallyLaws.{from_sums}
use Rattle.model.proofs.sums.Goals as goal

pub returns : goal.returns
returns c =
    from_sums _ _ c.loop-i.r (c.requires.first ∙ sym c.requires.second)
    (c.loop-i.invariant.0 ∙ sym c.requires.first)
    (λ k l. c.loop-i.invariant.1 k (omega arith))
