-- `lines::answer_put` sets the bytes, and says how many. Assumes nothing.
use Rattle.std.proofs.Common.{arith, length, ◌/◌}
use Rattle.show.proofs.Writing.{wrote_size, wrote_within, wrote_then}
use Rattle.show.proofs.TextLengths.{decimal_few}
use Rattle.lines.specs.Lines.{put_text}
use Rattle.lines.proofs.answer_put.Goals as goal

pub write_decimal-requires : goal.write_decimal-requires
write_decimal-requires c = omega (arith, decimal_few (length c.args.hex.now / 2), wrote_size c.write_text.ensures)

pub write_text-requires-2 : goal.write_text-requires-2
write_text-requires-2 c =
    let word = wrote_size c.write_text.ensures in
    let count = wrote_within (decimal_few _) c.write_decimal.ensures in
    omega arith

pub returns : goal.returns
unfolding put_text
returns c = (
  c.put_bytes.ensures,
  wrote_then c.write_text.ensures (wrote_then c.write_decimal.ensures c.write_text-2.ensures),
)
