-- `checks8::check_copy_logged`: the table of a copy, and then line 6 with the length of its list.
-- Assumes nothing.
use mathlib.Core.Path.{sym}
use Rattle.model.proofs.RefusalLaws.{copy_accepted, log_given, log_passed}
use Rattle.words8.specs.Word.{W}
use Rattle.runs.proofs.Kept.{handed_on}
use Rattle.runs.proofs.Rooms.{range_small}
use Rattle.checks8.proofs.check_copy_logged.Goals as goal

pub returns-in_err-check_copy : goal.returns-in_err-check_copy
returns-in_err-check_copy c = handed_on _ _ c.from_residual.ensures.1 (log_given _ _ _ (sym c.in_err-check_copy.ensures))

pub copy_accesses-requires : goal.copy_accesses-requires
copy_accesses-requires c =
    let start = c.args in
    let ranges = (copy_accepted W start.k start.dest start.src start.n (sym c.in_ok-check_copy.ensures)).0 in
    (range_small ranges.0, range_small ranges.1)

pub returns : goal.returns
returns c = log_passed _ _ _ (sym c.in_ok-check_copy.ensures) c.check_room.ensures c.copy_accesses.ensures
