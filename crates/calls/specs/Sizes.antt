-- The sizes of the test program's buffers, each once.
-- Assumes nothing.
use Rattle.std.specs.Prelude.{ℕ, ◌*◌}
use Rattle.lines.specs.Sizes.{longest_answer}

-- Room for two of the longest answers.
abbrev pub most_output : ℕ
most_output = 2 * longest_answer

-- The most input that is held at once.
abbrev pub most_input : ℕ
most_input = 65536
