-- `commands::known` reads the fields of a row, and says what the row says. Assumes nothing.
use Rattle.std.proofs.Common.{◌∙◌}
use Rattle.std.proofs.lemmas.Result.{err_from_is_err_and}
use Rattle.commands.specs.Commands.{made}
use Rattle.commands.proofs.Tables.{kinds_few, row_read}
use Rattle.commands.proofs.known.Goals as goal

pub read_fields-requires : goal.read_fields-requires
read_fields-requires c = rw c.text_at-kinds.ensures (kinds_few _ c.requires.0)

pub returns-in_err-numbers : goal.returns-in_err-numbers
unfolding made
returns-in_err-numbers c =
    let why = err_from_is_err_and c.from_residual.result c.from_residual.ensures.1 in
    rw (why.1, why.2) (row_read _ _ _ _ _ _ c.requires.0 c.requires.1 c.text_at-kinds.ensures c.in_err-numbers.ensures)

pub returns : goal.returns
unfolding made
returns c = c.say.ensures ∙ row_read _ _ _ _ _ _ c.requires.0 c.requires.1 c.text_at-kinds.ensures c.in_ok-numbers.ensures
