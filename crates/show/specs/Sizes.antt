-- How many bytes each part of an answer takes at most.
-- Assumes nothing.
use Rattle.std.specs.Prelude.{ℕ, ◌+◌, ◌*◌, length}
use Rattle.texts.specs.Codes.{codes}

-- A number of 64 bits.
abbrev pub most_number : ℕ
most_number = 20

-- No word of an outcome is longer than `address `.
abbrev pub most_word : ℕ
most_word = length (codes "address ")

abbrev pub most_outcome : ℕ
most_outcome = most_word + most_number

-- `/` and a number; `a/b/c/d`
abbrev pub most_slashed : ℕ
most_slashed = 1 + most_number

abbrev pub most_counts : ℕ
most_counts = most_number + 3 * most_slashed

-- What an answer says; the line, with its newline.
abbrev pub most_reply : ℕ
most_reply = most_outcome + (length (codes " loads ") + most_counts) + (length (codes " stores ") + most_counts)

abbrev pub most_answer : ℕ
most_answer = most_reply + 1

-- A number of 32 bits; one after a space.
abbrev pub most_short : ℕ
most_short = 10

abbrev pub most_spaced : ℕ
most_spaced = 1 + most_short

-- The line of a logged call, where the log has so many numbers.
abbrev pub most_logged : ℕ → ℕ
most_logged room = most_answer + length (codes " log") + room * most_spaced
