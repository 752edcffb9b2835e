-- A chunk that is loaded, or not, by a binary digit of the size, and three of them in a row: a partial load.
-- Assumes nothing.
use mathlib.Core.Path.{◌≡◌, refl, ap, ◌∙◌}
use mathlib.Core.Bool.{Bool, not, ◌||◌}
use mathlib.Core.List.{List, [], ◌∷◌, ◌++◌, append_assoc, append-nil}
use Prim.Native.Nat.{ℕ, zero, suc, ◌+◌, ◌*◌, ◌-◌, ◌/◌, ◌%◌, ◌^◌, ◌<◌, ◌≤◌}
use native.Mathlib.Nat.{dvd_of_mod-eq-zero, le_of_dvd, mod-lt, mul-one, mul-zero, zero-mod}
use native.Mathlib.Omega.{arith}
use lib.Bits.{bit_and, bit_or}
use lib.Dec.{eqb, eqb→eq}
use lib.ListN.{length, length-append}
use borrow.Author.Tests.{eq-eqb}
use Rattle.model.specs.declared.Work.{Work}
use Rattle.model.specs.Access.{Access, load}
use Rattle.model.specs.Fit.{Fit}
use Rattle.model.specs.Lists.{made, chunks}
use Rattle.model.specs.Memory.{read_le, view}
use Rattle.runs.specs.Ran.{Found}
use Rattle.model.specs.declared.Log.{Log}
use Rattle.model.specs.Tally.{tally, joined}
use Rattle.model.proofs.MemoryLaws.{view_lt}
use Rattle.model.proofs.LogLaws.{recorded_none, recorded_then}
use Rattle.model.proofs.ShiftLaws.{stacked}
use Rattle.model.proofs.Widths.{all_below, below}
use Rattle.model.proofs.WordLaws.{width_some}
use Rattle.words8.specs.Word.{W}
use Rattle.words8.specs.Partials.{PartOf, SoFar, ChunkAsked, ChunkDone}
use Rattle.words8.specs.declared.partial.Loading.{Loading}

-- ---- the binary digit

-- `m & w`, for a width and a size below the word: computed for each of them.
masks : ℕ → ℕ → Bool
masks w m = not (eqb (W % w) 0) || eqb (bit_and m w) (m / w % 2 * w)

masked : (m w : ℕ) → m < W → W % w ≡ 0 → bit_and m w ≡ m / w % 2 * w
unfolding masks
masked m w l e =
    eqb→eq (bit_and m w) (m / w % 2 * w)
    (rw (eq-eqb (W % w) 0 e) at
    (below (masks w) W (below (λ x. all_below (masks x) W) (W + 1) tt w (omega (arith, le_of_dvd {m = w} {n = W} (omega arith) (dvd_of_mod-eq-zero w e)))) m l))

module _ (m w : ℕ) (less : m < W) (divides : W % w ≡ 0) where
  digit : (d : ℕ) → d < 2 → bit_and m w ≡ d * w → (bit_and m w ≡ 0 → d ≡ 0) × ((bit_and m w ≡ 0 → ⊥) → d ≡ 1)
  digit zero l e = (λ z. refl, λ n. absurd (n (omega arith)))
  digit (suc zero) l e = (λ z. absurd (omega (arith, width_some {a = 0} (omega arith) (record { divides = divides; multiple = zero-mod w }))), λ n. refl)
  digit (suc (suc d)) l e = absurd (omega arith)

  pub digit_clear : bit_and m w ≡ 0 → m / w % 2 ≡ 0
  digit_clear = (digit (m / w % 2) (mod-lt (m / w) (omega arith)) (masked m w less divides)).0

  pub digit_set : (bit_and m w ≡ 0 → ⊥) → m / w % 2 ≡ 1
  digit_set = (digit (m / w % 2) (mod-lt (m / w) (omega arith)) (masked m w less divides)).1

-- ---- one chunk

-- All that is known where the digit is set.
pub record Set (ws : List ℕ) (w src dst m offset : ℕ) : Type 0 where
  pub digit : m / w % 2 ≡ 1
  pub fit : Fit W (length ws) w (src + offset)
  pub room : dst + offset + w ≤ W
  pub some : 0 < w

pub asked_set : {ws : List ℕ} {w src dst m : ℕ} {g : Log} {p : Loading} → ChunkAsked ws w src dst m g p → (bit_and m w ≡ 0 → ⊥)
    → Set ws w src dst m p.offset
asked_set {w = w} {m = m} a n =
    let d : m / w % 2 ≡ 1 = digit_set m w a.less a.divides n in
    record { digit = d; fit = a.fits d; room = a.room d; some = width_some (omega arith) (a.fits d).aligned }

pub none_loaded : {f : ℕ → ℕ} {w src dst m : ℕ} {g : Log} {p : Loading} → m / w % 2 ≡ 0 → ChunkDone f w src dst m g g p p
none_loaded {w = w} e = record { offset = rw (e, mul-zero w) (omega arith); so = λ xs s. rw (e, append-nil xs) s }

pub one_loaded : {ws : List ℕ} {w src dst m : ℕ} {g g' : Log} {p : Loading} {v s : ℕ} {a b : Work}
    → Set ws w src dst m p.offset → Found (read_le (view W ws) (src + p.offset) w) (load w (src + p.offset) ∷ []) g g' v a
    → s ≡ 8 * (dst + p.offset) → b ≡ joined p.work a
    → ChunkDone (view W ws) w src dst m g g' p (record { out = bit_or p.out (v * 2 ^ s % 2 ^ (8 * W)); offset = p.offset + w; work = b })
one_loaded {ws} {w} {src} {dst} {m} {p = p} set found shift work = record {
  offset = rw (set.digit, mul-one w);
  so = λ xs s. rw set.digit record {
    few = simp length-append (omega (arith, s.few, set.some));
    out = rw (s.out, found.found) (stacked W (view W ws) (view_lt W ws) src dst p.offset w set.room shift);
    recorded = recorded_then s.recorded found.recorded work;
  };
}

-- ---- three chunks

-- Nothing is loaded yet.
pub at_start : {f : ℕ → ℕ} {src dst : ℕ} {g : Log} {a : Work} → a ≡ tally [] → SoFar f src dst [] g g (record { out = 0; offset = 0; work = a })
unfolding read_le
at_start e = record { few = omega arith; out = omega arith; recorded = recorded_none e }

-- The next chunk: its address is a multiple of its size, and it ends inside the part.
pub asked : {ws : List ℕ} {src a dst m : ℕ} {xs : List Access} {start g : Log} {p : Loading} {w : ℕ} → W % w ≡ 0
    → PartOf (length ws) src dst m → a ≡ src + dst → dst + m ≤ W → SoFar (view W ws) a dst xs start g p
    → (m / w % 2 ≡ 1 → ((a + p.offset) % w ≡ 0) × (p.offset + w ≤ m)) → ChunkAsked ws w a dst m g p
asked {xs = xs} {start} divides part e l s h = record {
  xs = xs;
  start = start;
  so = s;
  divides = divides;
  less = part.less;
  fits = λ d. record {
    aligned = record { divides = divides; multiple = (h d).0 };
    range = record { few = part.range.few; inside = omega (arith, (h d).1, part.range.inside) };
  };
  room = λ d. omega (arith, (h d).1);
}

-- By the widths u, v and w, in that order: the bytes that have been placed, and the list of the loads.
pub three_chunks : {f : ℕ → ℕ} {src dst m : ℕ} {g g₁ g₂ g₃ : Log} {p q r t : Loading} (u v w : ℕ) → p.offset ≡ 0
    → SoFar f src dst [] g g p → ChunkDone f u src dst m g g₁ p q → ChunkDone f v src dst m g₁ g₂ q r → ChunkDone f w src dst m g₂ g₃ r t
    → u * (m / u % 2) + v * (m / v % 2) + w * (m / w % 2) ≡ m
    → Found (read_le f src m * 256 ^ dst) (chunks src m (u ∷ v ∷ w ∷ [])) g g₃ t.out t.work
unfolding chunks
three_chunks {f} {src} {dst} {m} {g} {g₃ = g₃} {p} {q} {r} {t} u v w z s d e h sum = record {
  found = done.out ∙ ap (λ (n : ℕ). read_le f src n * 256 ^ dst) (omega (arith, d.offset, e.offset, h.offset));
  recorded = rw (← list) done.recorded;
}
  where
    loaded : ℕ → ℕ → List Access
    loaded x a = made (m / x % 2) (load x a)

    done : SoFar f src dst ((loaded u (src + p.offset) ++ loaded v (src + q.offset)) ++ loaded w (src + r.offset)) g g₃ t
    done = h.so (loaded u (src + p.offset) ++ loaded v (src + q.offset)) (e.so (loaded u (src + p.offset)) (d.so [] s))

    list : (loaded u (src + p.offset) ++ loaded v (src + q.offset)) ++ loaded w (src + r.offset) ≡ chunks src m (u ∷ v ∷ w ∷ [])
    list =
        let first : src + p.offset ≡ src = omega arith in
        let second : src + q.offset ≡ src + u * (m / u % 2) = omega (arith, d.offset) in
        let third : src + r.offset ≡ src + u * (m / u % 2) + v * (m / v % 2) = omega (arith, d.offset, e.offset) in
        rw (first, second, third) (simp (append_assoc, append-nil))

-- ---- sizes, as lemmas of their own: with little else in reach, omega can do them

pub front_sum : (m : ℕ) → m < W → 4 * (m / 4 % 2) + 2 * (m / 2 % 2) + 1 * (m / 1 % 2) ≡ m
front_sum m l = omega arith

pub end_sum : (m : ℕ) → m < W → 1 * (m / 1 % 2) + 2 * (m / 2 % 2) + 4 * (m / 4 % 2) ≡ m
end_sum m l = omega arith

-- The end partial load's four bytes, after one and two.
pub end_four : (src m : ℕ) {o p : ℕ} → src % W ≡ 0 → m < W → o ≡ 0 + 1 * (m / 1 % 2) → p ≡ o + 2 * (m / 2 % 2) → m / 4 % 2 ≡ 1
    → ((src + (W - m) + p) % 4 ≡ 0) × (p + 4 ≤ m)
end_four src m {p = p} a l e f d =
    let last : p + 4 ≡ m = omega (arith, end_sum m l) in
    (at-end src (W - m) p a (omega arith), omega arith)
  where
    at-end : (a b p : ℕ) → a % W ≡ 0 → b + p + 4 ≡ W → (a + b + p) % 4 ≡ 0
    at-end a b p h e = omega arith
