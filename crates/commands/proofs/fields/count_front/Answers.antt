-- `commands::fields::count_front` is the place of the first byte that does not pass, or the length. Assumes nothing.
use Rattle.std.proofs.Common.{◌∙◌, ap, not, ℕ, Option, length, rules, tests}
use Rattle.std.specs.Option.{unwrap_or}
use Rattle.std.proofs.lemmas.Iterator.{YieldsList-from_slice}
use Rattle.std.proofs.lemmas.Iterator.Search.{position_from_yields_List}
use Rattle.commands.proofs.Reading.{front_placed}
use Rattle.commands.proofs.fields.count_front.Goals as goal

pub returns-clause-value : goal.returns-clause-value
returns-clause-value g c = λ passes tells.
    let s = c.args.s.now in
    let placed =
    position_from_yields_List (λ (b : ℕ). not (passes b)) _ _ c.position.result c.position.ensures.ran
    (YieldsList-from_slice s cc) (λ x b q k. search (rules, tests, tells)) in
    c.unwrap_or.ensures ∙ ap (λ (r : Option ℕ). unwrap_or r (length s)) placed ∙ front_placed passes s
