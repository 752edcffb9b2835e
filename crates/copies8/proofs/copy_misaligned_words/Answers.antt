-- `copies8::copy_misaligned_words` makes the accesses of its list, and leaves what performing it leaves.
-- Invariant: the first part is loaded and so many turns are done, and what is left to store of the word loaded last is held (`Turning`).
-- Assumes nothing.
use mathlib.Core.Path.{◌≡◌}
use mathlib.Core.Bool.{Bool}
use Prim.Native.Nat.{ℕ, ◌+◌, ◌-◌, ◌/◌, ◌%◌, ◌<◌}
use native.Mathlib.Omega.{arith}
use Rattle.words8.specs.Word.{W}
use Rattle.runs.specs.Asked.{Words, Across}
use Rattle.runs.proofs.Misaligned.{turning_none, turning_joinable, turning_more, turning_done}
use Rattle.runs.proofs.Straddled.{last_few}
use Rattle.words8.proofs.WordSize.{core}
use Rattle.copies8.proofs.Brought.{past_by, part_of}
use Rattle.copies8.proofs.Direction.{up}
use Rattle.copies8.proofs.copy_misaligned_words.Goals as goal

-- The source's cursor stands inside its word.
inside : {k d n : ℕ} (up : Bool) (s : ℕ) → Words up W k d s n × (0 < n × 0 < s % W) → Across up W k d (s - s % W) (s % W) n
inside up s h =
    let here : s - s % W + s % W ≡ s = omega arith in
    record { words = rw here h.0; word = omega arith; some = h.1.1; less = omega arith }

pub loop-i-init : goal.loop-i-init
loop-i-init g c = turning_none core (up g.row.UP) (inside _ _ c.requires) (part_of c.load_part-first.ensures (grind arith))

pub join-work-requires : goal.join-work-requires
join-work-requires g c =
    turning_joinable (up g.row.UP) _ _ (inside _ _ c.requires) c.past-dest.ensures c.past-src_aligned.ensures (grind arith)
    c.loop-i.invariant c.copy_next_word-turn.ensures (grind arith) (omega arith)

pub loop-i-preserved : goal.loop-i-preserved
loop-i-preserved g c =
    turning_more (up g.row.UP) _ _ (inside _ _ c.requires) c.past-dest.ensures c.past-src_aligned.ensures (grind arith)
    c.loop-i.invariant c.copy_next_word-turn.ensures c.join-work.ensures

pub join-requires : goal.join-requires
join-requires g c =
    turning_joinable (up g.row.UP) c.loop-i.i _ (inside _ _ c.requires)
    (past_by (up g.row.UP) _ c.past-dest-2.ensures (omega arith))
    (past_by (up g.row.UP) _ c.past-src_aligned-2.ensures (omega arith)) (grind arith) c.loop-i.invariant
    c.copy_last_word-last.ensures (grind arith) (last_few _ _ _ _ _)

pub returns : goal.returns
returns g c =
    let all : c.loop-i.i ≡ c.args.n / W - 1 = grind arith in
    let here : c.args.src - c.args.src % W + c.args.src % W ≡ c.args.src = omega arith in
    rw (here, all) at
    (turning_done (up g.row.UP) c.loop-i.i _ (inside _ _ c.requires)
    (past_by (up g.row.UP) _ c.past-dest-2.ensures (omega arith))
    (past_by (up g.row.UP) _ c.past-src_aligned-2.ensures (omega arith)) (grind arith) c.loop-i.invariant
    c.copy_last_word-last.ensures c.join.ensures)
