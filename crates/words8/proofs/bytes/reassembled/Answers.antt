-- `words8::bytes::reassembled`: by the law over the word size.
-- Assumes nothing.
use Prim.Native.Nat.{◌-◌}
use native.Mathlib.Omega.{arith}
use Rattle.model.proofs.ShiftLaws.{reassembly}
use Rattle.words8.specs.Word.{W}
use Rattle.words8.proofs.bytes.reassembled.Goals as goal

pub returns : goal.returns
returns c =
    reassembly W c.args.offset c.args.low c.args.high
    {s = c.bits-shift.result} {t = c.bits.result - c.bits-shift.result} (omega arith) (omega arith) (omega arith) (omega arith)
