-- `model::zero` is the tally of the empty list: every count of it is 0.
-- Assumes nothing.
use mathlib.Core.Path.{refl}
use Rattle.model.specs.Tally.{total, tally}
use Rattle.model.proofs.zero.Goals as goal

pub returns : goal.returns
unfolding total tally
returns c = refl
