-- `texts::tables::number_in` is the number of a text in a table.
-- Invariant: it is none of the first i, so that what is left of the table decides. Assumes nothing.
use Rattle.std.proofs.Common.{◌≡◌, ◌+◌, ◌-◌}
use Rattle.texts.specs.Texts.{number_in}
use Rattle.texts.proofs.TextLaws.{left_of}
use Rattle.texts.proofs.tables.number_in.Given as goal

abbrev pub invariant-loop-i : goal.invariant-loop-i
invariant-loop-i l = number_in l.count l.table l.text ≡ l.i + number_in (l.count - l.i) (left_of l.texts) l.text
