-- The size of this core's word, as the theorems about the lists take it.
-- Assumes nothing.
use Rattle.lists.specs.Sizes.{Core, eight_byte}
use Rattle.words8.specs.Word.{W}

pub core : Core W
core = eight_byte
