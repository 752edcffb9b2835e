-- `copies8::load_part`: the end of a word, or its front, stands at its place in the number that the partial load gives.
-- Assumes nothing.
use Rattle.runs.proofs.Straddled.{front_found, end_found}
use Rattle.copies8.proofs.load_part.Goals as goal

pub returns-then-end : goal.returns-then-end
returns-then-end c = end_found c.if-end.true c.requires.1.1 c.load_aligned_end_partial.ensures

pub returns-else-end : goal.returns-else-end
returns-else-end c = front_found c.if-end.false c.load_aligned_partial.ensures
