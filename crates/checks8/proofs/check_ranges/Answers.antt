-- `checks8::check_ranges`: the lines of the first range, and then line 3.
-- Assumes nothing.
use mathlib.Core.Path.{◌≡◌, sym, ◌∙◌}
use mathlib.Core.List.{[], ◌∷◌}
use native.Mathlib.Omega.{arith}
use Rattle.model.specs.Refusals.{none, ruled, ranges_table, fill_table}
use Rattle.model.proofs.RefusalLaws.{append-given, append_passed, fill_accepted}
use Rattle.words8.specs.Word.{W}
use Rattle.runs.proofs.Kept.{handed_on}
use Rattle.checks8.proofs.check_ranges.Goals as goal
use Rattle.checks8.proofs.check_ranges.Goals.{In_ok-check_range}

-- Where the first range passes, none of its lines holds.
passed : (c : In_ok-check_range) → ruled (fill_table W c.args.k c.args.first c.args.n) ≡ none
unfolding fill_table
passed c = sym c.in_ok-check_range.ensures

pub returns-in_err-check_range : goal.returns-in_err-check_range
unfolding ranges_table
returns-in_err-check_range c = handed_on _ _ c.from_residual.ensures.1 (append-given (_ ∷ _ ∷ []) (_ ∷ []) (sym c.in_err-check_range.ensures))

pub overflow_mul-k : goal.overflow_mul-k
overflow_mul-k c =
    let start = c.args in
    omega (arith, (fill_accepted W start.k start.first start.n (passed (goal.at.overflow_mul-k c).In_ok-check_range)).few)

pub returns : goal.returns
unfolding ranges_table fill_table
returns c = c.check_inside.ensures ∙ append_passed (_ ∷ _ ∷ []) (_ ∷ []) (passed (goal.at.returns c).In_ok-check_range)
