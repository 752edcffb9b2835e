-- `scans8::string_scan`: how many bytes come before the first zero, or that there is none, and the loads up to it.
-- Invariant: the bytes passed are not zero, and their loads are recorded (`Passed`). Assumes nothing.
use Rattle.model.specs.Meaning.{is_null}
use Rattle.model.specs.Memory.{view}
use Rattle.words8.specs.Word.{W}
use Rattle.runs.proofs.Passed.{Passed, byte_at}
use Rattle.scans8.proofs.string_scan.Given as goal

abbrev pub invariant-loop-n : goal.invariant-loop-n
invariant-loop-n l =
    Passed (is_null l.s (view W l.words)) (byte_at l.s) l.bytes l.n l.initial.log l.log l.work
