-- `copies8::copy_chunks` makes the accesses of its list, and leaves what performing it leaves.
-- Invariant: so many chunks are copied. Assumes nothing.
use Prim.Native.Nat.{◌+◌, ◌*◌, ◌≤◌}
use native.Mathlib.Omega.{arith}
use Rattle.runs.proofs.Asking.{chunk_within, chunk_fits}
use Rattle.runs.proofs.Turns.{pairs_none, pairs_more, pairs_joinable}
use Rattle.copies8.proofs.Brought.{past_by, past_room, chunk_room}
use Rattle.copies8.proofs.Direction.{up}
use Rattle.copies8.proofs.copy_chunks.Goals as goal

pub loop-i-init : goal.loop-i-init
loop-i-init g c = pairs_none (up g.row.UP) g.row.SIZE c.args.dest c.args.src c.zero-work.ensures

pub past-dest-requires : goal.past-dest-requires
past-dest-requires g c =
    let l : g.row.SIZE * c.loop-i.i + g.row.SIZE ≤ c.args.n = chunk_within _ _ _ (grind arith) in
    past_room (up g.row.UP) c.requires.both.dest (grind arith)

pub chunk-dest_chunk-requires : goal.chunk-dest_chunk-requires
chunk-dest_chunk-requires g c =
    let l : g.row.SIZE * c.loop-i.i + g.row.SIZE ≤ c.args.n = chunk_within _ _ _ (grind arith) in
    chunk_room (up g.row.UP) _ _ c.requires.both.dest c.past-dest.ensures (grind arith)

pub copy_chunk-turn-requires : goal.copy_chunk-turn-requires
copy_chunk-turn-requires g c =
    chunk_fits (up g.row.UP) c.loop-i.i c.requires (grind arith) c.loop-i.invariant.size
    (past_by (up g.row.UP) _ c.past-dest.ensures (grind arith)) (past_by (up g.row.UP) _ c.past-src.ensures (grind arith))
    c.chunk-dest_chunk.ensures c.chunk-src_chunk.ensures

pub join-work-requires : goal.join-work-requires
join-work-requires g c =
    pairs_joinable (up g.row.UP) c.requires (grind arith) c.loop-i.invariant
    (past_by (up g.row.UP) _ c.past-dest.ensures (grind arith)) (past_by (up g.row.UP) _ c.past-src.ensures (grind arith))
    c.chunk-dest_chunk.ensures c.chunk-src_chunk.ensures c.copy_chunk-turn.ensures (grind arith)

pub loop-i-preserved : goal.loop-i-preserved
loop-i-preserved g c =
    pairs_more (up g.row.UP) c.requires (grind arith) c.loop-i.invariant
    (past_by (up g.row.UP) _ c.past-dest.ensures (grind arith)) (past_by (up g.row.UP) _ c.past-src.ensures (grind arith))
    c.chunk-dest_chunk.ensures c.chunk-src_chunk.ensures c.copy_chunk-turn.ensures c.join-work.ensures
