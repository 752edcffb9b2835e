-- `fills8::set_bytes` makes the accesses of its list, and leaves what performing it leaves: where its tail is left, the rest is done
-- (`begun`), whichever way it came.
-- Assumes nothing.
use mathlib.Core.Path.{refl}
use mathlib.Core.Bool.{true}
use native.Mathlib.Omega.{arith}
use Rattle.words8.specs.Word.{W}
use Rattle.runs.proofs.Phases.{parts, FillBegun, fill_short, fill_long, fill_phases_joinable, fill_done, fill_joinable}
use Rattle.runs.proofs.Turns.{byte_each}
use Rattle.words8.proofs.WordSize.{core}
use Rattle.runs.specs.Ran.{lent}
use Rattle.fills8.proofs.set_bytes.Goals as goal
use Rattle.fills8.proofs.set_bytes.Goals.{Joined-n-ge-WORD_COPY_THRESHOLD, then-n-ge-WORD_COPY_THRESHOLD, else-n-ge-WORD_COPY_THRESHOLD}

begun : (c : Joined-n-ge-WORD_COPY_THRESHOLD) → FillBegun W c.args.c c.args.s c.args.n c.if-n-ge-WORD_COPY_THRESHOLD.s c.if-n-ge-WORD_COPY_THRESHOLD.n (lent c.args.mem.now c.args.log.now) (lent c.if-n-ge-WORD_COPY_THRESHOLD.mem c.if-n-ge-WORD_COPY_THRESHOLD.log) c.if-n-ge-WORD_COPY_THRESHOLD.work
begun c =
    elim c.if-n-ge-WORD_COPY_THRESHOLD.branch [
      | then-n-ge-WORD_COPY_THRESHOLD w ↦ rw (w.mem-is, w.log-is, w.s-is, w.n-is, w.work-is)
          (fill_long (parts core true _ _ (omega arith)) c.requires refl refl (byte_each _ _ w.set_chunks-head.ensures) w.set_chunks-words.ensures w.join-work.ensures)
      | else-n-ge-WORD_COPY_THRESHOLD w ↦ rw (w.mem-is, w.log-is, w.s-is, w.n-is, w.work-is) (fill_short (omega arith) c.requires c.zero-work.ensures)
    ]

pub join-work-requires : goal.join-work-requires
join-work-requires c =
    fill_phases_joinable core _ (parts core true _ _ (omega arith)) (omega (arith, c.requires.few, c.requires.inside))
    (byte_each _ _ c.set_chunks-head.ensures).recorded.counted c.set_chunks-words.ensures.recorded.counted

pub join-requires : goal.join-requires
join-requires c =
    fill_joinable core (begun (goal.at.join-requires c).Joined-n-ge-WORD_COPY_THRESHOLD) (byte_each _ _ c.set_chunks-tail.ensures).recorded.counted (omega (arith, c.requires.few, c.requires.inside))

pub returns : goal.returns
returns c = fill_done (begun (goal.at.returns c).Joined-n-ge-WORD_COPY_THRESHOLD) (byte_each _ _ c.set_chunks-tail.ensures) c.join.ensures
