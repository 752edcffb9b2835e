-- The sizes of the test program's memory and of its answers, each once.
-- Assumes nothing.
use Rattle.std.specs.Prelude.{ℕ, ◌+◌, length}
use Rattle.texts.specs.Codes.{codes}
use Rattle.show.specs.Sizes.{most_number, most_logged}
use Rattle.commands.specs.Sizes.{most_room}

-- The words of the memory.
abbrev pub memory_words : ℕ
memory_words = 8192

-- `put COUNT`
abbrev pub most_put : ℕ
most_put = length (codes "put ") + most_number + 1

-- No reason is longer than this one.
abbrev pub most_why : ℕ
most_why = length (codes "an odd number of hex digits")

-- `error LINE WHY`
abbrev pub most_error : ℕ
most_error = length (codes "error ") + most_number + 1 + most_why + 1

-- The longest answer is that of a call with the largest log.
abbrev pub longest_answer : ℕ
longest_answer = most_logged most_room
