-- `checks8::check_move_logged`: the table of a move, and then line 6 with the length of its list.
-- Assumes nothing.
use mathlib.Core.Path.{sym}
use Rattle.model.proofs.RefusalLaws.{ranges-accepted, log_given, log_passed}
use Rattle.words8.specs.Word.{W}
use Rattle.runs.proofs.Kept.{handed_on}
use Rattle.runs.proofs.Rooms.{range_small}
use Rattle.checks8.proofs.check_move_logged.Goals as goal

pub returns-in_err-check_ranges : goal.returns-in_err-check_ranges
returns-in_err-check_ranges c = handed_on _ _ c.from_residual.ensures.1 (log_given _ _ _ (sym c.in_err-check_ranges.ensures))

pub move_accesses-requires : goal.move_accesses-requires
move_accesses-requires c =
    let start = c.args in
    let ranges = ranges-accepted W start.k start.dest start.src start.n (sym c.in_ok-check_ranges.ensures) in
    (range_small ranges.0, range_small ranges.1)

pub returns : goal.returns
returns c = log_passed _ _ _ (sym c.in_ok-check_ranges.ensures) c.check_room.ensures c.move_accesses.ensures
