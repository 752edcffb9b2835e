-- `copies8::copy_chunks` makes the accesses of its list, and leaves what performing it leaves.
-- Invariant: so many chunks are copied. Assumes nothing.
use Rattle.model.specs.Lists.{pairs}
use Rattle.model.specs.Perform.{moving}
use Rattle.runs.specs.Ran.{Ran, lent}
use Rattle.words8.specs.Word.{W}
use Rattle.copies8.proofs.Direction.{up}
use Rattle.copies8.proofs.copy_chunks.Given as goal

abbrev pub invariant-loop-i : goal.invariant-loop-i
invariant-loop-i g l =
    Ran W (moving l.dest l.src) (pairs (up g.row.UP) g.row.SIZE l.dest l.src l.i) (lent l.initial.mem l.initial.log) (lent l.mem l.log) l.work
