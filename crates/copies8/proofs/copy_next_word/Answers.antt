-- `copies8::copy_next_word`: the next word is loaded whole, and the word across the two is stored (`next_across`).
-- Assumes nothing.
use native.Mathlib.Omega.{arith}
use Rattle.runs.proofs.Straddled.{next_across}
use Rattle.copies8.proofs.Direction.{up}
use Rattle.copies8.proofs.copy_next_word.Goals as goal

pub returns : goal.returns
returns g c =
    next_across (up g.row.UP) _ _ _ _ _ c.word_across-word.ensures c.chunk-dest.ensures c.store-stored.ensures c.join-work.ensures
    c.requires (grind arith) c.load-next.ensures
