-- `words8::bytes::part`: the shift to the left drops the bytes above, the one back those below.
-- Assumes nothing.
use native.Mathlib.Omega.{arith}
use Rattle.model.proofs.ShiftLaws.{shifted_part}
use Rattle.words8.specs.Word.{W}
use Rattle.words8.proofs.bytes.part.Goals as goal

pub returns : goal.returns
returns c =
    shifted_part W c.args.offset c.args.width c.args.word
    {s = c.bits.result} {t = c.bits-2.result} (omega arith) (omega arith) (omega arith)
