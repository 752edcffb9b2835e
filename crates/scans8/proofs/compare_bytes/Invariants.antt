-- `scans8::compare_bytes`: the difference of the first unequal pair, or 0, and the loads up to it.
-- Invariant: the pairs passed are equal, and their loads are recorded (`Passed`). Assumes nothing.
use Rattle.model.specs.Meaning.{unequal}
use Rattle.model.specs.Memory.{view}
use Rattle.words8.specs.Word.{W}
use Rattle.runs.proofs.Passed.{Passed, pair_at}
use Rattle.scans8.proofs.compare_bytes.Given as goal

abbrev pub invariant-loop-i : goal.invariant-loop-i
invariant-loop-i l =
    Passed (unequal l.s1 l.s2 (view W l.mem)) (pair_at l.s1 l.s2) l.n l.i l.initial.log l.log l.work
