-- `copies8::copy` makes the accesses of its list, and leaves what performing it leaves: bytes alone, or a head, the words and a tail.
-- Assumes nothing.
use mathlib.Core.Path.{◌≡◌}
use mathlib.Core.Bool.{Bool, true, false}
use Prim.Native.Nat.{ℕ, ◌-◌, ◌%◌, ◌≤◌}
use native.Mathlib.Omega.{arith}
use Rattle.model.specs.Lists.{head, threshold}
use Rattle.words8.specs.Word.{W}
use Rattle.runs.proofs.Asking.{both_start}
use Rattle.runs.proofs.Phases.{Parts, parts, short_done, words_joinable, tail_joinable, long_done}
use Rattle.words8.proofs.WordSize.{core}
use Rattle.copies8.proofs.Besides.{besides_none, none_more}
use Rattle.copies8.proofs.Direction.{up}
use Rattle.copies8.proofs.copy.Goals as goal

-- The head leads to a boundary, if it is that of a number at the cursor's place in a word: the bytes are a head, words and a tail.
cut : {d n h : ℕ} (up : Bool) (d' : ℕ) → h ≡ head up W d' → d' % W ≡ d % W → threshold W ≤ n
    → let m = n - h - (n - h) % W in Parts up W d n h m (n - h - m)
cut {d} {n} {h} up d' e q l = rw (to up e) (parts core up d n l)
  where
    to : (up : Bool) → h ≡ head up W d' → h ≡ head up W d
    to true e = rw q at e
    to false e = rw q at e

pub returns-then-n-lt-WORD_COPY_THRESHOLD : goal.returns-then-n-lt-WORD_COPY_THRESHOLD
returns-then-n-lt-WORD_COPY_THRESHOLD g c =
    short_done (up g.row.UP) _ _ (omega arith) c.cursor-dest.ensures c.cursor-src.ensures
    (none_more c.copy_chunks.ensures (search besides_none) (grind arith))

pub copy_words-words-requires-clause-misalignment : goal.copy_words-words-requires-clause-misalignment
copy_words-words-requires-clause-misalignment g c = grind arith

pub join-before-requires : goal.join-before-requires
join-before-requires g c =
    words_joinable core (up g.row.UP) _ _ _ (cut _ _ c.head-dest_misalignment.ensures (grind arith) (omega arith))
    c.copy_chunks-first.ensures c.copy_words-words.ensures (omega (arith, c.requires.0.few, c.requires.0.inside))

pub join-requires : goal.join-requires
join-requires g c =
    tail_joinable core (up g.row.UP) _ _ _ (cut _ _ c.head-dest_misalignment.ensures (grind arith) (omega arith))
    c.copy_chunks-first.ensures c.copy_words-words.ensures _ _ c.join-before.ensures c.copy_chunks-tail.ensures
    (omega (arith, c.requires.0.few, c.requires.0.inside))

pub returns : goal.returns
returns g c =
    long_done core (up g.row.UP) _ _ _ (cut _ _ c.head-dest_misalignment.ensures (grind arith) (omega arith))
    c.copy_chunks-first.ensures c.copy_words-words.ensures _ _ c.join-before.ensures
    (none_more c.copy_chunks-tail.ensures (search besides_none) (grind arith)) c.args.dest c.args.src
    (rw (c.cursor-dest.ensures, c.cursor-src.ensures) (both_start (up g.row.UP) c.requires)) c.cursor-dest.ensures c.cursor-src.ensures
    c.past-dest.ensures c.past-src.ensures c.past-dest-2.ensures c.past-src-2.ensures c.join.ensures
