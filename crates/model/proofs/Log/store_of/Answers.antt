-- `model::store_of` writes the number of one store, and hands back its tally.
-- Assumes nothing.
use mathlib.Core.Path.{sym, ap, ◌∙◌}
use mathlib.Core.List.{[], ◌∷◌}
use Prim.Native.Nat.{ℕ, ◌+◌, ◌*◌}
use Rattle.model.specs.Access.{store}
use Rattle.model.specs.Log.{width_code, per_code, for_store}
use Rattle.model.specs.Tally.{tally}
use Rattle.model.proofs.LogLaws.{recorded_one}
use Rattle.model.proofs.TallyLaws.{same_counts}
use Rattle.model.proofs.Widths.{code_back, one_access}
use Rattle.model.proofs.Log.store_of.Goals as goal

pub returns : goal.returns
returns c =
    let at = c.args.at in
    let code = c.width_code-code in
    recorded_one (store c.args.width at) c.enter.ensures
    (ap (λ (i : ℕ). at + per_code * i + for_store) (sym (code_back _ code.ensures.0) ∙ ap width_code code.ensures.1))
    (same_counts (c.one_at.ensures ∙ (one_access _ at code.ensures.0).1) ∙ ap (λ (w : ℕ). tally (store w at ∷ [])) code.ensures.1)
