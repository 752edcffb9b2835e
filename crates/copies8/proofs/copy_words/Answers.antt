-- `copies8::copy_words` makes the accesses of its list: which of the two it is, the source's place in its word decides.
-- Assumes nothing.
use native.Mathlib.Omega.{arith}
use Rattle.runs.proofs.Phases.{words_aligned, words_misaligned}
use Rattle.copies8.proofs.Direction.{up}
use Rattle.copies8.proofs.copy_words.Goals as goal

pub returns-then-src_misalignment-eq0 : goal.returns-then-src_misalignment-eq0
returns-then-src_misalignment-eq0 g c =
    words_aligned (up g.row.UP) _ _ _ (omega (arith, c.if-src_misalignment-eq0.true)) c.copy_chunks.ensures

pub returns-else-src_misalignment-eq0 : goal.returns-else-src_misalignment-eq0
returns-else-src_misalignment-eq0 g c =
    words_misaligned (up g.row.UP) _ _ _ (omega (arith, c.if-src_misalignment-eq0.false)) c.copy_misaligned_words.ensures
