-- `lines::answer_bad` writes `error`, the line's number and the reason. Assumes nothing.
use Rattle.std.proofs.Common.{length, ap, arith}
use Rattle.show.proofs.Writing.{wrote_size, wrote_within, wrote_then}
use Rattle.show.proofs.TextLengths.{decimal_few}
use Rattle.lines.specs.Lines.{error_text}
use Rattle.lines.proofs.Reasons.{why_few}
use Rattle.lines.proofs.answer_bad.Goals as goal

pub write_decimal-requires : goal.write_decimal-requires
write_decimal-requires c = omega (arith, decimal_few c.args.number, wrote_size c.write_text.ensures)

pub write_text-requires-2 : goal.write_text-requires-2
write_text-requires-2 c =
    let word = wrote_size c.write_text.ensures in
    let number = wrote_within (decimal_few _) c.write_decimal.ensures in
    omega arith

pub write_text-requires-3 : goal.write_text-requires-3
write_text-requires-3 c =
    let word = wrote_size c.write_text.ensures in
    let number = wrote_within (decimal_few _) c.write_decimal.ensures in
    let space = wrote_size c.write_text-2.ensures in
    omega (arith, ap length c.reason.ensures, why_few c.args.why)

pub write_text-requires-4 : goal.write_text-requires-4
write_text-requires-4 c =
    let word = wrote_size c.write_text.ensures in
    let number = wrote_within (decimal_few _) c.write_decimal.ensures in
    let space = wrote_size c.write_text-2.ensures in
    let why = wrote_size c.write_text-3.ensures in
    omega (arith, ap length c.reason.ensures, why_few c.args.why)

pub returns : goal.returns
unfolding error_text
returns c =
    rw (← c.reason.ensures)
    (wrote_then c.write_text.ensures (wrote_then c.write_decimal.ensures
    (wrote_then c.write_text-2.ensures (wrote_then c.write_text-3.ensures c.write_text-4.ensures))))
