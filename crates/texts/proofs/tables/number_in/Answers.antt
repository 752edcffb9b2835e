-- `texts::tables::number_in` is the number of a text in a table.
-- Invariant: it is none of the first i, so that what is left of the table decides. Assumes nothing.
use Rattle.std.proofs.Common.{◌≡◌, arith, rules, tests}
use Rattle.std.proofs.lemmas.Bool.Decides.{nat_tests}
use Rattle.std.proofs.lemmas.Fn.{always_returns_same}
use Rattle.texts.specs.Texts.{first_text, later_texts}
use Rattle.texts.proofs.Fronts.{is_text_same}
use Rattle.texts.proofs.TextLaws.{left_of, next_text, number_next, number_none}
use Rattle.texts.proofs.tables.number_in.Goals as goal
use Rattle.texts.proofs.tables.number_in.Goals.{After-unwrap_or_default}

-- The part that comes is the first text of what is left.
next : (c : After-unwrap_or_default)
    → (c.unwrap_or_default.result.now ≡ first_text (left_of c.loop-i.texts))
    × (left_of c.next.new.self ≡ later_texts (left_of c.loop-i.texts))
next c =
    next_text _ _ _ _ _ c.next.ensures.steps (always_returns_same _ _ _ (λ a r f k. search (rules, tests))) c.unwrap_or_default.ensures

pub returns-then-eq : goal.returns-then-eq
returns-then-eq c =
    let first = next (goal.at.returns-then-eq c).After-unwrap_or_default in
    grind (arith, nat_tests, is_text_same, number_next)

pub loop-i-preserved : goal.loop-i-preserved
loop-i-preserved c =
    let first = next (goal.at.loop-i-preserved c).After-unwrap_or_default in
    grind (arith, nat_tests, is_text_same, number_next)

pub returns : goal.returns
returns c = grind (arith, number_none)
