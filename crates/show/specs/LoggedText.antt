-- The answer of a logged call as a line of text: that of the plain call, ` log`, and the numbers that were written, each after a space.
-- Assumes nothing.
use Rattle.std.specs.Prelude.{List, [], ◌∷◌, ◌++◌, ℕ, zero, suc, ◌+◌, get_or, take}
use Rattle.model.specs.Answers.{Reply}
use Rattle.texts.specs.Codes.{codes}
use Rattle.show.specs.Numbers.{decimal}
use Rattle.show.specs.AnswerText.{reply_text}

-- The sum of the first k numbers.
unfoldable pub sum_of : List ℕ → ℕ → ℕ
sum_of ns zero = 0
sum_of ns (suc k) = sum_of ns k + get_or ns k 0

-- How many numbers a call has written into its log: one for each access that it counts. A refusal counts none.
abbrev pub written : Reply → ℕ
written r = sum_of r.counts 8

-- Numbers, each after a space.
abbrev pub spaced : ℕ → List ℕ
spaced n = codes " " ++ decimal n

unfoldable pub list_text : List ℕ → List ℕ
list_text [] = []
list_text (n ∷ ns) = spaced n ++ list_text ns

-- The line, with its newline. `log` is the whole of what was lent, as the call left it.
unfoldable pub logged_text : Reply → List ℕ → List ℕ
logged_text r log = reply_text r ++ (codes " log" ++ (list_text (take (written r) log) ++ codes "\n"))
