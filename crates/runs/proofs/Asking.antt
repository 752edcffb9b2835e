-- What is asked of a whole range holds of its parts, in both directions: further on, fewer bytes are ahead of the cursors.
-- Assumes nothing.
use mathlib.Core.Path.{◌≡◌, refl, ap, ◌∙◌}
use mathlib.Core.Bool.{Bool, true, false}
use Prim.Native.Nat.{ℕ, suc, ◌+◌, ◌*◌, ◌/◌, ◌%◌, ◌<◌, ◌≤◌}
use native.Mathlib.Nat.{mod-one, mod-eq_of_lt, mul-suc, mul-le-mul_left, div-add-mod}
use native.Mathlib.Decide.{dec_lt}
use native.Mathlib.Omega.{arith}
use Rattle.runs.specs.Asked.{Ahead, Both, Chunks}
use Rattle.model.specs.Fit.{Range, Fit}
use Rattle.model.specs.Lists.{cursor, chunk, past}
use Rattle.lists.proofs.Blocks.{aligned}
use Rattle.lists.proofs.Cursors.{Room, cursor_start, past_none, past_boundary, chunk_boundary}

-- n bytes at a range's first address.
pub ahead_start : {W k : ℕ} (up : Bool) (a n : ℕ) → Range W k a n → Ahead up W k (cursor up a n) n
ahead_start up a n r =
    record { here = ap (λ (x : ℕ). cursor up x n) (cursor_start up a n); range = rw (cursor_start up a n) r }

pub both_start : {W k dest src n : ℕ} (up : Bool) → Range W k dest n × Range W k src n
    → Both up W k (cursor up dest n) (cursor up src n) n
both_start {dest = dest} {src} {n} up r = record { dest = ahead_start up dest n r.0; src = ahead_start up src n r.1 }

pub ahead_room : {W k c n : ℕ} (up : Bool) → Ahead up W k c n → Room up c n
ahead_room true h = tt
ahead_room false h = omega (arith, h.here)

pub ahead_past : {W k k' c c' n n' : ℕ} (up : Bool) (m : ℕ) → k' ≡ k → c' ≡ past up c m → m + n' ≤ n → Ahead up W k c n
    → Ahead up W k' c' n'
ahead_past {W} {k} {k'} {c} {c'} {n} {n'} up m e p l h = rw (e, p) record { here = here up h; range = record { few = h.range.few; inside = inside up h } }
  where
    here : (up : Bool) → Ahead up W k c n → cursor up (chunk up (past up c m) n') n' ≡ past up c m
    here true h = refl
    here false h = omega (arith, h.here)

    inside : (up : Bool) → Ahead up W k c n → chunk up (past up c m) n' + n' ≤ W * k
    inside true h = omega (arith, h.range.inside)
    inside false h = omega (arith, h.here, h.range.inside)

pub both_past : {W k k' d d' s s' n n' : ℕ} (up : Bool) (m : ℕ) → k' ≡ k → d' ≡ past up d m → s' ≡ past up s m → m + n' ≤ n
    → Both up W k d s n → Both up W k' d' s' n'
both_past up m e p q l h = record { dest = ahead_past up m e p l h.dest; src = ahead_past up m e q l h.src }

-- ---- two cursors

-- Two cursors that have advanced together are as far apart as before, and so are the next chunks of both.
pub level : {W k d s n : ℕ} (up : Bool) (m : ℕ) → Both up W k d s n → m ≤ n → past up d m + s ≡ past up s m + d
level true m h l = omega arith
level false m h l = omega (arith, h.dest.here, h.src.here)

pub level_chunk : {W k d s n : ℕ} (up : Bool) (m w : ℕ) → Both up W k d s n → m + w ≤ n
    → chunk up (past up d m) w + s ≡ chunk up (past up s m) w + d
level_chunk true m w h l = omega arith
level_chunk false m w h l = omega (arith, h.dest.here, h.src.here)

pub level_start : (up : Bool) (dest src n : ℕ) → cursor up dest n + src ≡ cursor up src n + dest
level_start true dest src n = omega arith
level_start false dest src n = omega arith

-- ---- chunks, one after the other

-- The chunk at place i, of the n / w chunks that lie in n bytes.
pub chunk_within : (w n i : ℕ) → i < n / w → w * i + w ≤ n
chunk_within w n i l =
    let upto : suc i ≤ n / w = omega arith in
    omega (arith, mul-suc w i, mul-le-mul_left w upto, div-add-mod n w)

module _ {W w k d s n : ℕ} (up : Bool) (i : ℕ) (h : Chunks up W w k d s n) (l : i < n / w) where
  chunk_ahead : Both up W k (past up d (w * i)) (past up s (w * i)) w
  chunk_ahead = both_past up (w * i) refl refl refl (chunk_within w n i l) h.both

  -- Its accesses fit.
  pub chunk_fits : {k' d₁ s₁ d₂ s₂ : ℕ} → k' ≡ k → d₁ ≡ past up d (w * i) → s₁ ≡ past up s (w * i) → d₂ ≡ chunk up d₁ w
      → s₂ ≡ chunk up s₁ w → Fit W k' w d₂ × Fit W k' w s₂
  chunk_fits e p q x y = rw (e, x, y, p, q) (at h.both.dest h.dest chunk_ahead.dest, at h.both.src h.src chunk_ahead.src)
    where
      at : {c : ℕ} → Ahead up W k c n → c % w ≡ 0 → Ahead up W k (past up c (w * i)) w → Fit W k w (chunk up (past up c (w * i)) w)
      at {c} a m b = record {
        aligned = aligned h.divides
            (ap (λ (x : ℕ). chunk up (past up c x) w % w) (omega arith)
            ∙ chunk_boundary up c n 0 w i (ahead_room up a) (omega (arith, mul-suc w i, chunk_within w n i l))
            (ap (λ (x : ℕ). x % w) (past_none up c) ∙ m));
        range = b.range;
      }

-- ---- words across two of the source

-- Where a word or more is ahead of a cursor inside the word at b, there is a word after that one.
pub next_room : {W k o n : ℕ} (up : Bool) (b : ℕ) → Ahead up W k (b + o) n → b % W ≡ 0 → o < W → W ≤ n → Room up b W
next_room true b h e l m = tt
next_room {W} false b h e l m = go (dec_lt b W)
  where
    go : Dec (b < W) → W ≤ b
    go (yes i) = absurd (omega (arith, h.here, mod-eq_of_lt i))
    go (no i) = omega arith

pub next_boundary : (up : Bool) (W b : ℕ) → Room up b W → b % W ≡ 0 → past up b W % W ≡ 0
next_boundary up W b r e =
    ap (λ (x : ℕ). past up b x % W) (omega arith)
    ∙ past_boundary up b W 0 W 1 r (omega arith) (ap (λ (x : ℕ). x % W) (past_none up b) ∙ e)

-- ---- single bytes

-- An access of one byte of a range.
pub byte_fit : {W k a n x : ℕ} → Range W k a n → a ≤ x → x < a + n → Fit W k 1 x
byte_fit {W} {x = x} r l m = record {
  aligned = aligned (mod-one W) (mod-one x);
  range = record { few = r.few; inside = omega (arith, r.inside) };
}

-- Of a byte that lies inside, whichever range it is of.
pub inside_fit : {W k a n x : ℕ} → Range W k a n → x + 1 ≤ W * k → Fit W k 1 x
inside_fit {W} {x = x} r l = record { aligned = aligned (mod-one W) (mod-one x); range = record { few = r.few; inside = l } }
