-- `lines::memory::next_word` makes a word of the next bytes of a text, the highest first.
-- Invariant: the word is that of the bytes from `left` on. Assumes nothing.
use Rattle.lines.proofs.BytesLaws.{WordFrom}
use Rattle.lines.proofs.memory.next_word.Given as goal

abbrev pub invariant-loop-left : goal.invariant-loop-left
invariant-loop-left l = WordFrom l.hex l.i l.left l.word
