-- `commands::fields::first_field` counts the blanks in front, and then the bytes of the field. Assumes nothing.
use Rattle.std.proofs.Common.{rules}
use Rattle.commands.specs.Fields.{blank, belongs}
use Rattle.commands.proofs.Reading.{spans}
use Rattle.commands.proofs.fields.first_field.Goals as goal

pub returns : goal.returns
returns c =
    spans _ _ _
    (c.count_front-start.ensures.value blank (λ byte b k. search rules))
    c.count_front-start.ensures.within
    (c.count_front.ensures.value belongs (λ byte b k. search rules))
    c.count_front.ensures.within
