-- One turn more of a loop: the next pair of a copy, chunk by chunk, over the direction and the width; the next store of a fill.
-- Assumes nothing.
use mathlib.Core.Path.{◌≡◌, refl, ◌∙◌}
use mathlib.Core.Bool.{Bool}
use mathlib.Core.List.{List, [], ◌∷◌}
use Prim.Native.Nat.{ℕ, ◌+◌, ◌*◌, ◌/◌, ◌%◌, ◌^◌, ◌<◌}
use native.Mathlib.Nat.{add-mul-mod_self_left, div-one}
use native.Mathlib.Omega.{arith}
use lib.ListN.{length}
use Rattle.model.specs.declared.Work.{Work}
use Rattle.model.specs.Access.{Access, load, store}
use Rattle.runs.specs.Asked.{Chunks}
use Rattle.model.specs.Fit.{Range, Fit}
use Rattle.model.specs.Lists.{upto, chunk, past, pair, pairs, stores}
use Rattle.model.specs.Perform.{moving, filling}
use Rattle.runs.specs.Ran.{Lent, Ran}
use Rattle.model.specs.Tally.{tally, joined, Joinable}
use Rattle.runs.proofs.RanLaws.{ran_none, ran_together, ran_turn, ran_joinable}
use Rattle.lists.proofs.Blocks.{aligned}
use Rattle.runs.proofs.Asking.{level_chunk, chunk_within}
use Rattle.lists.proofs.Lengths.{pairs-length, stores-length}

-- ---- a loop of pairs

pub pairs_none : {W : ℕ} {z : Lent} {a : Work} (up : Bool) (w d s : ℕ) → a ≡ tally [] → Ran W (moving d s) (pairs up w d s 0) z z a
unfolding pairs upto
pairs_none up w d s e = ran_none e

-- The chunk at place i was copied as it stands, behind those before it.
module _ {W w d s n d₁ s₁ d₂ s₂ i : ℕ} {z z' z'' : Lent} {a b : Work} (up : Bool) (h : Chunks up W w (length z.words) d s n) (l : i < n / w)
    (r : Ran W (moving d s) (pairs up w d s i) z z' a) (p : d₁ ≡ past up d (w * i)) (q : s₁ ≡ past up s (w * i))
    (x : d₂ ≡ chunk up d₁ w) (y : s₂ ≡ chunk up s₁ w) (t : Ran W (moving d₂ s₂) (load w s₂ ∷ store w d₂ ∷ []) z' z'' b) where
  turn : Ran W (moving d s) (pair up w (past up d (w * i)) (past up s (w * i))) z' z'' b
  turn =
      rw (← p, ← q, ← x, ← y)
      (ran_together d₂ s₂ d s (rw (x, y, p, q) (level_chunk up (w * i) w h.both (chunk_within w n i l))) t)

  pub pairs_more : {c : Work} → c ≡ joined a b → Ran W (moving d s) (pairs up w d s (i + 1)) z z'' c
  unfolding pairs
  pairs_more j = ran_turn i _ refl r turn j

  pub pairs_joinable : i < 2 ^ 62 → Joinable a b
  pairs_joinable few = ran_joinable r turn (omega (arith, pairs-length up w d s i))

-- ---- a loop of stores of the byte b: so many turns are done from s on

-- A chunk of one byte for each byte.
pub byte_each : {W b : ℕ} {z z' : Lent} {a : Work} (s n : ℕ) → Ran W (filling b) (stores 1 s (n / 1)) z z' a
    → Ran W (filling b) (stores 1 s n) z z' a
byte_each s n r = rw div-one at r

module _ {W b : ℕ} (w s : ℕ) where
  pub filled_none : {z : Lent} {a : Work} → a ≡ tally [] → Ran W (filling b) (stores w s 0) z z a
  unfolding stores upto
  filled_none q = ran_none q

  pub filled_more : {z z' z'' : Lent} {a e c : Work} (i : ℕ) → Ran W (filling b) (stores w s i) z z' a
      → Ran W (filling b) (store w (s + w * i) ∷ []) z' z'' e → c ≡ joined a e → Ran W (filling b) (stores w s (i + 1)) z z'' c
  unfolding stores
  filled_more i r t j = ran_turn i _ refl r t j

  pub filled_fit : {n : ℕ} {z z' : Lent} {a : Work} (i : ℕ) → Range W (length z.words) s n → W % w ≡ 0 → s % w ≡ 0
      → Ran W (filling b) (stores w s i) z z' a → i < n / w → Fit W (length z'.words) w (s + w * i)
  filled_fit {n} i r p q t l = record {
    aligned = aligned p (add-mul-mod_self_left s w i ∙ q);
    range = rw t.size record { few = r.few; inside = omega (arith, chunk_within w n i l, r.inside) };
  }

  pub filled_joinable : {z z' z'' : Lent} {a e : Work} {ys : List Access} (i : ℕ) → Ran W (filling b) (stores w s i) z z' a
      → Ran W (filling b) ys z' z'' e → i + length ys < 2 ^ 64 → Joinable a e
  filled_joinable i t r l = ran_joinable t r (omega (arith, stores-length w s i))
