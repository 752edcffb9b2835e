-- `checks8::check_fill_logged`: the table of a fill, and then line 6 with the length of its list.
-- Assumes nothing.
use mathlib.Core.Path.{sym}
use Rattle.model.proofs.RefusalLaws.{fill_accepted, log_given, log_passed}
use Rattle.words8.specs.Word.{W}
use Rattle.runs.proofs.Kept.{handed_on}
use Rattle.runs.proofs.Rooms.{range_small}
use Rattle.model.specs.Refusals.{fill_table}
use Rattle.checks8.proofs.check_fill_logged.Goals as goal

pub returns-in_err-check_range : goal.returns-in_err-check_range
unfolding fill_table
returns-in_err-check_range c = handed_on _ _ c.from_residual.ensures.1 (log_given _ _ _ (sym c.in_err-check_range.ensures))

pub fill_accesses-requires : goal.fill_accesses-requires
unfolding fill_table
fill_accesses-requires c =
    let start = c.args in
    range_small (fill_accepted W start.k start.s start.n (sym c.in_ok-check_range.ensures))

pub returns : goal.returns
unfolding fill_table
returns c = log_passed _ _ _ (sym c.in_ok-check_range.ensures) c.check_room.ensures c.fill_accesses.ensures
