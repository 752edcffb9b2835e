-- The rows as the code has them: their words and the kinds of their fields as texts in two tables, and the numbers of a line's fields in a
-- list.
-- Assumes nothing.
use Rattle.std.specs.Prelude.{List, ℕ, get_or, Result, Ok, Err}
use Rattle.texts.specs.Codes.{codes}
use Rattle.commands.specs.declared.Command.TheVariants.{Nothing}
use Rattle.commands.specs.declared.Why.{Why}
use Rattle.commands.specs.Commands.{Reading, Row, row, rows}

abbrev pub word_table : List ℕ
word_table = codes "copy;move;fill;compare;bcmp;strlen;copy-log;move-log;fill-log;put;get;clear;"

abbrev pub kind_table : List ℕ
kind_table = codes "knnn;knnn;knvn;knnn;knnn;kn;knnnr;knnnr;knvnr;nh;nn;;"

-- The numbers that stand in a list.
abbrev pub listed : List ℕ → ℕ → ℕ
listed ns i = get_or ns i 0

-- What the code finds, with the numbers that it lists.
abbrev pub reported : Result (List ℕ) Why → Reading
reported (Ok ns) = Ok (listed ns)
reported (Err why) = Err why

-- Row i, and a row of no word past the last.
abbrev pub row_at : List ℕ → ℕ → Row
row_at s i = get_or (rows s) i (row "" "" (λ n. Ok Nothing))
