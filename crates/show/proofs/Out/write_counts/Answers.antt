-- `show::Out::write_counts` writes the word and the first count, and then the others, each with a slash before it.
-- Invariant: those before the index are written. Assumes nothing.
use Rattle.std.proofs.Common.{arith, take, drop, length, length-append, get_or, ◌-◌}
use Rattle.show.specs.AnswerText.{slashed}
use Rattle.show.specs.Sizes.{most_slashed}
use Rattle.show.proofs.Writing.{wrote_as, wrote_size}
use Rattle.show.proofs.TextLengths.{decimal_few, slashed_few}
use Rattle.show.proofs.CountLaws.{counts_whole}
use Rattle.show.proofs.LogLaws.{each_few, wrote_next}
use Rattle.show.proofs.Out.write_counts.Goals as goal

pub write_worded-requires-in-loop-count : goal.write_worded-requires-in-loop-count
write_worded-requires-in-loop-count c =
    let counts = c.args.counts.now in
    let few = each_few slashed most_slashed (take (length counts - 1) (drop 1 counts)) (λ j. slashed_few _) c.loop-count.count-index in
    let so_far = c.loop-count.invariant in
    let ends = simp length-append at so_far.ends in
    omega (arith, few, ends, decimal_few (get_or counts 0 0), slashed_few (get_or (take (length counts - 1) (drop 1 counts)) c.loop-count.count-index 0), wrote_size so_far)

pub loop-count-preserved : goal.loop-count-preserved
loop-count-preserved c = wrote_next slashed _ _ _ (omega arith) c.loop-count.invariant c.write_worded-in-loop-count.ensures

pub returns : goal.returns
returns c = wrote_as (counts_whole c.args.word.now c.args.counts.now c.loop-count.count-index (omega arith) (omega arith)) c.loop-count.invariant
