-- `copies8::copy_misaligned_words` makes the accesses of its list, and leaves what performing it leaves.
-- Invariant: the first part is loaded and so many turns are done, and what is left to store of the word loaded last is held (`Turning`).
-- Assumes nothing.
use Rattle.words8.specs.Word.{W}
use Rattle.runs.proofs.Misaligned.{Turning}
use Rattle.runs.specs.Ran.{lent}
use Rattle.copies8.proofs.Direction.{up}
use Rattle.copies8.proofs.copy_misaligned_words.Given as goal

abbrev pub invariant-loop-i : goal.invariant-loop-i
invariant-loop-i g l =
    Turning (up g.row.UP) W l.dest l.src_aligned l.offset l.i l.prev_word (lent l.fn.mem l.fn.log) (lent l.mem l.log) l.work
