-- The size of this core's word in bytes. Its code says `WORD_SIZE`.
-- Assumes nothing.
use Rattle.std.specs.Prelude.{ℕ}

abbrev pub W : ℕ
W = 8
