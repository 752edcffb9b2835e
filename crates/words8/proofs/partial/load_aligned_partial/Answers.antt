-- `words8::partial::load_aligned_partial`: three chunks, each at a multiple of its size.
-- Assumes nothing.
use mathlib.Core.Path.{refl}
use native.Mathlib.Nat.{mul-one}
use mathlib.Core.List.{[]}
use native.Mathlib.Omega.{arith}
use Rattle.words8.proofs.Chunks.{asked, at_start, three_chunks, front_sum}
use Rattle.words8.proofs.partial.load_aligned_partial.Goals as goal

pub load_chunk_aligned-part-requires : goal.load_chunk_aligned-part-requires
load_chunk_aligned-part-requires c =
    asked refl c.requires (omega arith) (omega arith) (at_start c.zero.ensures)
    (λ d. (omega arith, omega arith))

pub load_chunk_aligned-part-requires-2 : goal.load_chunk_aligned-part-requires-2
load_chunk_aligned-part-requires-2 c =
    asked refl c.requires (omega arith) (omega arith)
    (c.load_chunk_aligned-part.ensures.so [] (at_start c.zero.ensures))
    (λ d. (omega (arith, c.load_chunk_aligned-part.ensures.offset), omega (arith, c.load_chunk_aligned-part.ensures.offset)))

pub load_chunk_aligned-part-requires-3 : goal.load_chunk_aligned-part-requires-3
load_chunk_aligned-part-requires-3 c =
    asked refl c.requires (omega arith) (omega arith)
    (c.load_chunk_aligned-part-2.ensures.so _ (c.load_chunk_aligned-part.ensures.so [] (at_start c.zero.ensures)))
    (λ d. (
      omega (arith, c.load_chunk_aligned-part.ensures.offset, c.load_chunk_aligned-part-2.ensures.offset),
      omega (arith, c.load_chunk_aligned-part.ensures.offset, c.load_chunk_aligned-part-2.ensures.offset),
    ))

pub returns : goal.returns
returns c =
    rw mul-one at
    (three_chunks 4 2 1 refl (at_start c.zero.ensures)
    c.load_chunk_aligned-part.ensures c.load_chunk_aligned-part-2.ensures
    c.load_chunk_aligned-part-3.ensures
    (front_sum c.args.load_sz c.requires.less))
