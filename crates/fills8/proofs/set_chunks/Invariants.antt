-- `fills8::set_chunks` makes the accesses of its list, and leaves what performing it leaves. Invariant: so many chunks are stored.
-- Assumes nothing.
use Rattle.model.specs.Lists.{stores}
use Rattle.model.specs.Perform.{filling}
use Rattle.words8.specs.Word.{W}
use Rattle.runs.specs.Ran.{lent, Ran}
use Rattle.fills8.proofs.set_chunks.Given as goal

abbrev pub invariant-loop-i : goal.invariant-loop-i
invariant-loop-i g l = Ran W (filling l.c) (stores g.row.SIZE l.s l.i) (lent l.initial.mem l.initial.log) (lent l.mem l.log) l.work
