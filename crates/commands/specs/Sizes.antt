-- The sizes that docs/TEXT-FORM.md names, each once.
-- Assumes nothing.
use Rattle.std.specs.Prelude.{ℕ}

-- The most bytes of a line.
abbrev pub most_line : ℕ
most_line = 16383

-- The bytes of the memory, which `put` and `get` reach.
abbrev pub memory_bytes : ℕ
memory_bytes = 65536

-- The most numbers of a log.
abbrev pub most_room : ℕ
most_room = 40960

-- The most fields of a command, its word apart, and the number of commands.
abbrev pub most_fields : ℕ
most_fields = 5

abbrev pub row_count : ℕ
row_count = 12
