-- `words8::partial::load_chunk_aligned`: a chunk is loaded where the size has its digit (`Set`), and placed above those before it.
-- Assumes nothing.
use native.Mathlib.Omega.{arith}
use Rattle.words8.proofs.Chunks.{Set, asked_set, digit_clear, none_loaded, one_loaded}
use Rattle.words8.proofs.partial.load_chunk_aligned.Goals as goal
use Rattle.words8.proofs.partial.load_chunk_aligned.Goals.{Else-load_sz-chunk_sz-eq0}

set : (c : Else-load_sz-chunk_sz-eq0) → Set c.args.mem.now c.args.chunk_sz c.args.src c.args.dst c.args.load_sz c.args.part.offset
set c = asked_set c.requires c.if-load_sz-chunk_sz-eq0.false

pub returns-then-load_sz-chunk_sz-eq0 : goal.returns-then-load_sz-chunk_sz-eq0
returns-then-load_sz-chunk_sz-eq0 c = none_loaded (digit_clear _ _ c.requires.less c.requires.divides c.if-load_sz-chunk_sz-eq0.true)

pub overflow_add-src : goal.overflow_add-src
overflow_add-src c = omega (arith, (set (goal.at.overflow_add-src c).Else-load_sz-chunk_sz-eq0).fit.range.few, (set (goal.at.overflow_add-src c).Else-load_sz-chunk_sz-eq0).fit.range.inside)

pub load-chunk-requires : goal.load-chunk-requires
load-chunk-requires c = (set (goal.at.load-chunk-requires c).Else-load_sz-chunk_sz-eq0).fit

pub overflow_add-dst : goal.overflow_add-dst
overflow_add-dst c = omega (arith, (set (goal.at.overflow_add-dst c).Else-load_sz-chunk_sz-eq0).room)

pub bits-requires : goal.bits-requires
bits-requires c = omega (arith, (set (goal.at.bits-requires c).Else-load_sz-chunk_sz-eq0).room)

pub overflow_shl-placed : goal.overflow_shl-placed
overflow_shl-placed c = omega (arith, (set (goal.at.overflow_shl-placed c).Else-load_sz-chunk_sz-eq0).room, (set (goal.at.overflow_shl-placed c).Else-load_sz-chunk_sz-eq0).some)

pub returns : goal.returns
returns c =
    one_loaded {s = c.bits.result} (set (goal.at.returns c).Else-load_sz-chunk_sz-eq0)
    c.load-chunk.ensures (omega arith) c.join-joined.ensures
