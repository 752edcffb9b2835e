-- `show::Out::write_reply` writes the parts of the line, each behind the one before it.
-- Assumes nothing.
use Rattle.std.proofs.Common.{◌≡◌, length, arith, rules}
use Rattle.texts.specs.Codes.{codes}
use Rattle.show.specs.AnswerText.{reply_text}
use Rattle.show.proofs.Writing.{wrote_then, wrote_within}
use Rattle.show.proofs.TextLengths.{said_few, counts_few}
use Rattle.show.proofs.CountLaws.{loads_first, stores_last}
use Rattle.show.proofs.Out.write_reply.Goals as goal

pub write_counts-requires-2 : goal.write_counts-requires-2
write_counts-requires-2 c =
    let said = wrote_within (said_few _) c.write_outcome.ensures in
    let loads = wrote_within (counts_few (codes " loads ") _ 0) c.write_counts.ensures in
    (omega arith, search rules)

pub returns : goal.returns
unfolding reply_text
returns c =
    let numbers = c.args.answer.counts.numbers in
    let eight : length numbers ≡ 8 = search rules in
    rw (← loads_first numbers, ← stores_last numbers eight)
    (wrote_then c.write_outcome.ensures (wrote_then c.write_counts.ensures c.write_counts-2.ensures))
