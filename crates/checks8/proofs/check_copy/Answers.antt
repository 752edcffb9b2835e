-- `checks8::check_copy`: the table of two ranges, and then line 4.
-- Assumes nothing.
use mathlib.Core.Path.{sym, ◌∙◌}
use native.Mathlib.Omega.{arith}
use Rattle.model.specs.Refusals.{copy_table}
use Rattle.model.proofs.RefusalLaws.{line_given, line_passed, lines_passed, append-given, append_passed}
use Rattle.runs.proofs.Kept.{handed_on}
use Rattle.runs.proofs.Tests.{overlap-near, overlap_apart}
use Rattle.checks8.proofs.check_copy.Goals as goal

pub returns-in_err-check_ranges : goal.returns-in_err-check_ranges
unfolding copy_table
returns-in_err-check_ranges c = handed_on _ _ c.from_residual.ensures.1 (append-given _ _ (sym c.in_err-check_ranges.ensures))

pub returns-then-abs_diff-n : goal.returns-then-abs_diff-n
unfolding copy_table
returns-then-abs_diff-n c =
    line_given _ _ (overlap-near c.args.dest c.args.src c.args.n (omega (arith, c.abs_diff.ensures, c.if-abs_diff-n.true)))
    ∙ append_passed _ _ (sym (c.in_ok-check_ranges.ensures))

pub returns : goal.returns
unfolding copy_table
returns c =
    lines_passed
    ∙ line_passed _ _ (overlap_apart c.args.dest c.args.src c.args.n (omega (arith, c.abs_diff.ensures, c.if-abs_diff-n.false)))
    ∙ append_passed _ _ (sym (c.in_ok-check_ranges.ensures))
