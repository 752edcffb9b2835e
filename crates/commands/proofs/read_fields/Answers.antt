-- `commands::read_fields` reads the fields from left to right.
-- Invariant: `ReadTo`, what is read of them all is what is read of the rest. Assumes nothing.
use Rattle.std.proofs.lemmas.Result.{err_from_is_err_and}
use Rattle.commands.proofs.Rows.{read_more, read_wrong}
use Rattle.commands.proofs.read_fields.Goals as goal

pub loop-i-preserved : goal.loop-i-preserved
loop-i-preserved c =
    read_more c.loop-i.invariant c.loop-i-test.true c.first_field-field.ensures c.operand_of.ensures _ c.requires c.in_ok-numbers.was

pub returns-in_err-numbers : goal.returns-in_err-numbers
returns-in_err-numbers c =
    let why = err_from_is_err_and c.from_residual.result c.from_residual.ensures.1 in
    rw (why.1, why.2)
    (read_wrong c.loop-i.invariant c.loop-i-test.true c.first_field-field.ensures c.operand_of.ensures _ c.in_err-numbers.was)
