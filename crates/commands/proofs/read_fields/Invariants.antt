-- `commands::read_fields` reads the fields from left to right.
-- Invariant: `ReadTo`, what is read of them all is what is read of the rest. Assumes nothing.
use Rattle.commands.proofs.Rows.{ReadTo}
use Rattle.commands.proofs.read_fields.Given as goal

abbrev pub invariant-loop-i : goal.invariant-loop-i
invariant-loop-i l = ReadTo l.most l.s l.kinds l.rest l.i l.numbers
