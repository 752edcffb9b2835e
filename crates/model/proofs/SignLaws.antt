-- Compare against C: zero where no pair of bytes differs, and else of the sign that C names, that of the difference of the first pair that
-- does, as unsigned bytes. Its size is that difference, as impls.rs has it. By cases on the test that a difference makes.
-- Assumes nothing.
use mathlib.Core.Path.{◌≡◌, refl, sym, ap, ◌∙◌}
use mathlib.Core.Bool.{Bool, true, false, cond}
use Prim.Native.Nat.{ℕ, zero, suc, ◌+◌, ◌-◌, ◌<◌}
use native.Mathlib.Decide.{dec_lt}
use native.Mathlib.Nat.{add-zero}
use native.Mathlib.Omega.{arith}
use lib.Dec.{ltb}
use lib.IntN.{ℤ, pos, negsuc, ◌-ℤ◌}
use lib.Signed.{lt_z}
use borrow.Author.Tests.{ltb-true, lt-ltb, le-ltb}
use Rattle.model.specs.Meaning.{memcmp, unequal, difference, differ_at}
use Rattle.model.specs.Places.{FirstAt}
use Rattle.model.proofs.FirstLaws.{first_exists, first_unique}

at_place : (s1 s2 n p : ℕ) (f : ℕ → ℕ) → FirstAt (unequal s1 s2 f) n p → memcmp s1 s2 n f ≡ differ_at s1 s2 n f p
unfolding memcmp
at_place s1 s2 n p f h =
    ap (differ_at s1 s2 n f) (first_unique (unequal s1 s2 f) n (difference s1 s2 n f) p (first_exists (unequal s1 s2 f) n) h)

pub memcmp_none : (s1 s2 n : ℕ) (f : ℕ → ℕ) → FirstAt (unequal s1 s2 f) n n → memcmp s1 s2 n f ≡ pos 0
memcmp_none s1 s2 n f h = at_place s1 s2 n n f h ∙ rw (le-ltb n n (omega arith)) refl

pub memcmp-first : (s1 s2 n p : ℕ) (f : ℕ → ℕ) → FirstAt (unequal s1 s2 f) n p → p < n
    → memcmp s1 s2 n f ≡ pos (f (s1 + p)) -ℤ pos (f (s2 + p))
memcmp-first s1 s2 n p f h l = at_place s1 s2 n p f h ∙ rw (lt-ltb p n l) refl

below : (a b : ℕ) → lt_z (pos a -ℤ pos b) (pos 0) ≡ ltb a b
below a zero = ap (λ (x : ℕ). ltb x 0) (add-zero a)
below a (suc b) = go (ltb a (suc b)) refl
  where
    go : (t : Bool) → ltb a (suc b) ≡ t → lt_z (cond t (negsuc (suc b - suc a)) (pos (a - suc b))) (pos 0) ≡ t
    go true e = refl
    go false e = le-ltb (a - suc b) 0 (omega arith)

above : (a b : ℕ) → lt_z (pos 0) (pos a -ℤ pos b) ≡ ltb b a
above a zero = ap (λ (x : ℕ). ltb 0 x) (add-zero a)
above a (suc b) = go (ltb a (suc b)) refl
  where
    go : (t : Bool) → ltb a (suc b) ≡ t → lt_z (pos 0) (cond t (negsuc (suc b - suc a)) (pos (a - suc b))) ≡ ltb (suc b) a
    go true e = sym (le-ltb (suc b) a (omega (arith, ltb-true a (suc b) e)))
    go false e = more (dec_lt (suc b) a)
      where
        more : Dec (suc b < a) → ltb 0 (a - suc b) ≡ ltb (suc b) a
        more (yes l) = rw (lt-ltb 0 (a - suc b) (omega arith), lt-ltb (suc b) a l) refl
        more (no l) = rw (le-ltb 0 (a - suc b) (omega arith), le-ltb (suc b) a (omega arith)) refl

-- "The sign of a nonzero value returned [..] is determined by the sign of the difference between the values of the first pair of
-- characters [..] that differ": below zero exactly where the first is less, above zero exactly where the second is.
pub memcmp_below : (s1 s2 n p : ℕ) (f : ℕ → ℕ) → FirstAt (unequal s1 s2 f) n p → p < n
    → lt_z (memcmp s1 s2 n f) (pos 0) ≡ ltb (f (s1 + p)) (f (s2 + p))
memcmp_below s1 s2 n p f h l = ap (λ (z : ℤ). lt_z z (pos 0)) (memcmp-first s1 s2 n p f h l) ∙ below (f (s1 + p)) (f (s2 + p))

pub memcmp_above : (s1 s2 n p : ℕ) (f : ℕ → ℕ) → FirstAt (unequal s1 s2 f) n p → p < n
    → lt_z (pos 0) (memcmp s1 s2 n f) ≡ ltb (f (s2 + p)) (f (s1 + p))
memcmp_above s1 s2 n p f h l = ap (λ (z : ℤ). lt_z (pos 0) z) (memcmp-first s1 s2 n p f h l) ∙ above (f (s1 + p)) (f (s2 + p))
