-- `show::Out::write_log` writes the numbers, each after a space. Invariant: those before the index are written.
-- There is room for each, since those before it took no more than theirs (`each_few`).
-- Assumes nothing.
use Rattle.std.proofs.Common.{arith, ℕ, [], get_or, take_all}
use Rattle.show.specs.LoggedText.{spaced}
use Rattle.show.specs.Sizes.{most_spaced}
use Rattle.show.proofs.Writing.{wrote_size}
use Rattle.show.proofs.TextLengths.{spaced_few}
use Rattle.show.proofs.LogLaws.{each_few, wrote_next, list_is}
use Rattle.show.proofs.Out.write_log.Goals as goal

pub write_worded-requires : goal.write_worded-requires
write_worded-requires c =
    let few = λ (j : ℕ). spaced_few (get_or c.args.log.now j 0) (c.type_inv.log j).fits in
    omega (
      arith,
      each_few spaced most_spaced c.args.log.now few c.loop-number.number-index,
      few c.loop-number.number-index,
      wrote_size c.loop-number.invariant,
    )

pub loop-number-preserved : goal.loop-number-preserved
loop-number-preserved c = wrote_next spaced c.args.log.now [] c.loop-number.number-index (omega arith) c.loop-number.invariant c.write_worded.ensures

pub returns : goal.returns
returns c =
    let all = take_all c.loop-number.number-index c.args.log.now (omega arith) in
    rw (list_is c.args.log.now) (rw all at c.loop-number.invariant)
