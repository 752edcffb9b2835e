-- `texts::digits::all_digits` folds the bytes by what std calls a digit, which is what `digit_of` calls one (`all_walked`). Assumes nothing.
use Rattle.std.proofs.Common.{Bool, ◌&&◌, ◌∙◌, rules, tests}
use Rattle.std.proofs.lemmas.Iterator.{YieldsList-from_slice}
use Rattle.std.proofs.lemmas.Iterator.Consumers.{fold_from_yields_List}
use Rattle.std.specs.Char.{is_ascii_hexdigit}
use Rattle.texts.proofs.DigitLaws.{all_walked}
use Rattle.texts.proofs.digits.all_digits.Goals as goal

pub returns : goal.returns
returns c =
    let all = c.args.text.now in
    fold_from_yields_List _ (λ (good : Bool) b. good && is_ascii_hexdigit b) _ _ c.fold.ensures.ran (YieldsList-from_slice all cc) (λ a x b q k. search (rules, tests))
    ∙ all_walked all
