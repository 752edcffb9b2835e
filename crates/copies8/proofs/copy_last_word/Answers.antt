-- `copies8::copy_last_word`: what is wanted of the next word is loaded, and the word across the two is stored (`last_across`).
-- Assumes nothing.
use native.Mathlib.Omega.{arith}
use Rattle.runs.proofs.Straddled.{last_across, last_joinable}
use Rattle.words8.proofs.WordSize.{core}
use Rattle.copies8.proofs.Brought.{part_of}
use Rattle.copies8.proofs.Direction.{up}
use Rattle.copies8.proofs.copy_last_word.Goals as goal

pub join-requires : goal.join-requires
join-requires g c = last_joinable _ _ _ c.load_part-last.ensures.recorded c.store-stored.ensures

pub returns : goal.returns
returns g c =
    last_across (up g.row.UP) _ _ _ _ _ c.word_across-word.ensures c.chunk-dest.ensures c.store-stored.ensures c.join.ensures core
    c.requires c.past-last_aligned.ensures (part_of c.load_part-last.ensures (grind arith))
