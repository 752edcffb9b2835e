-- `model::load_of` writes the number of one load, and hands back its tally.
-- Assumes nothing.
use mathlib.Core.Path.{sym, ap, ◌∙◌}
use mathlib.Core.List.{[], ◌∷◌}
use Prim.Native.Nat.{ℕ, ◌+◌, ◌*◌}
use Rattle.model.specs.Access.{load}
use Rattle.model.specs.Log.{width_code, per_code}
use Rattle.model.specs.Tally.{tally}
use Rattle.model.proofs.LogLaws.{recorded_one}
use Rattle.model.proofs.TallyLaws.{same_counts}
use Rattle.model.proofs.Widths.{code_back, one_access}
use Rattle.model.proofs.Log.load_of.Goals as goal

pub returns : goal.returns
returns c =
    let at = c.args.at in
    let code = c.width_code-code in
    recorded_one (load c.args.width at) c.enter.ensures
    (ap (λ (i : ℕ). at + per_code * i) (sym (code_back _ code.ensures.0) ∙ ap width_code code.ensures.1))
    (same_counts (c.one_at.ensures ∙ (one_access _ at code.ensures.0).0) ∙ ap (λ (w : ℕ). tally (load w at ∷ [])) code.ensures.1)
