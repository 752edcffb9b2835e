-- `words8::bytes::with_part`: what is taken out is at most the word, and what is put in fits where that was.
-- Assumes nothing.
use Prim.Native.Nat.{◌*◌, ◌%◌, ◌^◌}
use native.Mathlib.Omega.{arith}
use Rattle.model.proofs.ShiftLaws.{Replaced, replaced}
use Rattle.words8.specs.Word.{W}
use Rattle.words8.proofs.bytes.with_part.Goals as goal
use Rattle.words8.proofs.bytes.with_part.Goals.{After-part-2}

told : (c : After-part-2) → Replaced W c.args.offset c.args.width c.args.word c.args.value (c.part.result * 2 ^ c.bits-place.result % 2 ^ (8 * W)) (c.part-2.result * 2 ^ c.bits-place.result % 2 ^ (8 * W))
told c =
    replaced W c.args.offset c.args.width
    c.args.word c.args.value
    (omega arith) (omega arith) c.part.ensures c.part-2.ensures c.bits-place.ensures

pub overflow_sub-result : goal.overflow_sub-result
overflow_sub-result c = (told (goal.at.overflow_sub-result c).After-part-2).taken

pub overflow_add-result : goal.overflow_add-result
overflow_add-result c = record { fits = (told (goal.at.overflow_add-result c).After-part-2).fits }

pub returns : goal.returns
returns c = (told (goal.at.returns c).After-part-2).bytes
