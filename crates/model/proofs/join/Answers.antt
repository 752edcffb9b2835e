-- `model::join` adds up two records: what `Joinable` says of two lists bounds each sum.
-- Assumes nothing.
use Rattle.model.specs.Tally.{joined}
use Rattle.model.proofs.TallyLaws.{same_counts, joinable_sums}
use Rattle.model.proofs.join.Goals as goal

pub returns : goal.returns
unfolding joined
returns c = same_counts c.sums-numbers.ensures

pub sums-numbers-requires : goal.sums-numbers-requires
sums-numbers-requires c = joinable_sums c.requires
