-- How long a list is, by the sums that are made before the first access, for refusal 6: below the threshold and from it on.
-- Assumes nothing.
use mathlib.Core.Path.{◌≡◌, refl, sym, ◌∙◌}
use mathlib.Core.Bool.{Bool, true, false, cond}
use Prim.Native.Nat.{ℕ, ◌+◌, ◌*◌, ◌-◌, ◌/◌, ◌%◌, ◌^◌, ◌<◌, ◌≤◌}
use native.Mathlib.Nat.{div-add-mod, mul-le-mul_left}
use native.Mathlib.Omega.{arith}
use lib.Dec.{eqb}
use lib.ListN.{length}
use borrow.Author.Tests.{lt-ltb, le-ltb, eq-eqb, ne_eqb}
use Rattle.model.specs.Fit.{Range}
use Rattle.model.specs.Lists.{cursor, past, threshold, head, along, fill_list}
use Rattle.lists.specs.Sizes.{Core, ones, word_accesses, run_accesses, accesses, fill_accesses}
use Rattle.lists.proofs.Lengths.{along-length, fill_length}

-- No sum of addresses and lengths that lie inside the memory wraps.
pub range_small : {W k a n : ℕ} → Range W k a n → a + n < 2 ^ 60
range_small {W} r = omega (arith, r.inside, mul-le-mul_left W r.few, div-add-mod 65536 W)

pub ones_sum : (m : ℕ) → m / 4 % 2 + m / 2 % 2 + m % 2 ≡ ones m
unfolding ones
ones_sum m = refl

module _ (W o w : ℕ) where
  pub aligned_sum : o ≡ 0 → 2 * w ≡ word_accesses W o w
  unfolding word_accesses
  aligned_sum e = rw (eq-eqb o 0 e) refl

  pub misaligned_sum : (o ≡ 0 → ⊥) → ones o + ones (W - o) + 2 * (w - 1) + 1 ≡ word_accesses W o w
  unfolding word_accesses
  misaligned_sum e = rw (ne_eqb o 0 e) refl

-- A partial load has three accesses at most.
pub ones_small : (m : ℕ) → ones m ≤ 3
unfolding ones
ones_small m = omega arith

pub words_small : (W o w : ℕ) → word_accesses W o w ≤ 2 * w + 7
unfolding word_accesses
words_small W o w = go (eqb o 0)
  where
    go : (b : Bool) → cond b (2 * w) (ones o + ones (W - o) + 2 * (w - 1) + 1) ≤ 2 * w + 7
    go true = omega arith
    go false = omega (arith, ones_small o, ones_small (W - o))

module _ {W : ℕ} (core : Core W) (up : Bool) (dest src n : ℕ) where
  pub short_sum : n < threshold W → 2 * n ≡ length (along up W dest src n)
  unfolding accesses run_accesses
  short_sum l = sym (along-length core up dest src n ∙ rw (lt-ltb n (threshold W) l) refl)

  pub long_sum : threshold W ≤ n
      → let h = head up W (cursor up dest n) in
      2 * h + word_accesses W (past up (cursor up src n) h % W) ((n - h) / W) + 2 * ((n - h) % W) ≡ length (along up W dest src n)
  unfolding accesses run_accesses
  long_sum l = sym (along-length core up dest src n ∙ rw (le-ltb n (threshold W) l) refl)

module _ (W s n : ℕ) where
  pub fill_short_sum : n < threshold W → n ≡ length (fill_list W s n)
  unfolding fill_accesses
  fill_short_sum l = sym (fill_length W s n ∙ rw (lt-ltb n (threshold W) l) refl)

  pub fill_long_sum : threshold W ≤ n → let h = head true W s in h + (n - h) / W + (n - h) % W ≡ length (fill_list W s n)
  unfolding fill_accesses
  fill_long_sum l = sym (fill_length W s n ∙ rw (le-ltb n (threshold W) l) refl)
