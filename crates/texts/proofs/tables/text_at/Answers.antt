-- `texts::tables::text_at` cuts the table at each end of a text, and takes part i: text i (`nth_text`). Assumes nothing.
use Rattle.std.proofs.Common.{rules, tests}
use Rattle.std.proofs.lemmas.Fn.{always_returns_same}
use Rattle.texts.proofs.TextLaws.{nth_text}
use Rattle.texts.proofs.tables.text_at.Goals as goal

pub returns : goal.returns
returns c =
    let ran = c.nth.ensures.ran in
    rw (c.split.ensures.done, c.split.ensures.rest) at
    (nth_text _ _ _ _ _ _ _ ran.0 ran.1.1 ran.1.2 ran.2 (always_returns_same _ _ _ (λ a r f k. search (rules, tests))) c.unwrap_or_default.ensures)
