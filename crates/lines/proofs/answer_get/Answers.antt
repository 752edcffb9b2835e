-- `lines::answer_get` writes `bytes`, and the bytes if there are any. Assumes nothing.
use Rattle.std.proofs.Common.{arith}
use Rattle.show.proofs.Writing.{wrote_size, wrote_within}
use Rattle.lines.proofs.BytesLaws.{hex_few, got_none, got_some}
use Rattle.lines.proofs.answer_get.Goals as goal
use Rattle.lines.proofs.answer_get.Goals.{then-count-gt0, else-count-gt0}

pub write_text-requires-2 : goal.write_text-requires-2
write_text-requires-2 c =
    let word = wrote_size c.write_text.ensures in
    elim c.if-count-gt0.branch [
      | then-count-gt0 w ↦
          let space = wrote_size w.write_text-then-count-gt0.ensures in
          let bytes = wrote_within (hex_few _ _ _) w.write_bytes.ensures in
          rw w.out-is (omega arith)
      | else-count-gt0 w ↦ rw w.out-is (omega arith)
    ]

pub returns : goal.returns
returns c =
    elim c.if-count-gt0.branch [
      | then-count-gt0 w ↦
          got_some _ _ _ c.write_text.ensures w.if-count-gt0.true w.write_text-then-count-gt0.ensures w.write_bytes.ensures
          (rw w.out-is at c.write_text-2.ensures)
      | else-count-gt0 w ↦ got_none _ _ _ c.write_text.ensures (omega arith) (rw w.out-is at c.write_text-2.ensures)
    ]
