-- One access that fits lies inside one word, which is lent: what it loads, and what it stores, is a part of that word.
-- Assumes nothing.
use mathlib.Core.Path.{◌≡◌, sym}
use mathlib.Core.List.{List}
use Prim.Native.Nat.{ℕ, zero, suc, ◌+◌, ◌*◌, ◌/◌, ◌%◌, ◌<◌, ◌≤◌}
use native.Mathlib.Nat.{div-add-mod, div-lt_iff_lt-mul, dvd_of_mod-eq-zero, dvd_trans, lt_of_mul-lt-mul_left, mod-eq-zero_of_dvd, mod-lt, mod-mod_of_dvd, mod-zero, mul_comm, mul-le-mul_left, mul-suc}
use native.Mathlib.Omega.{arith}
use lib.ListN.{length, get_or, set}
use Rattle.model.specs.Fit.{Aligned, Fit}
use Rattle.model.specs.Log.{per_code}
use Rattle.model.specs.Memory.{byte, view, read_le, over, laid}
use Rattle.model.proofs.MemoryLaws.{read_le-view, view-set}

-- A width that divides the word divides eight bytes, if the word does.
pub eight_bytes : {W w a : ℕ} → 8 % W ≡ 0 → Aligned W w a → 8 % w ≡ 0
eight_bytes {W} {w} e f = mod-eq-zero_of_dvd w (dvd_trans w (dvd_of_mod-eq-zero w f.divides) (dvd_of_mod-eq-zero W e))

module _ {W w a : ℕ} (some : 0 < W) where
  pub width_some : Aligned W w a → 0 < w
  width_some f = go w f.divides
    where
      go : (x : ℕ) → W % x ≡ 0 → 0 < x
      go zero e = absurd (omega (arith, mod-zero W))
      go (suc x) e = omega arith

  pub one_word : Aligned W w a → a % W + w ≤ W
  one_word f =
      let place : w * (a % W / w) ≡ a % W =
      omega (arith, div-add-mod (a % W) w, mod-mod_of_dvd w a (dvd_of_mod-eq-zero w f.divides)) in
      let word : w * (W / w) ≡ W = omega (arith, div-add-mod W w) in
      let before : a % W / w < W / w = lt_of_mul-lt-mul_left w (omega (arith, mod-lt a some)) in
      omega (arith, mul-le-mul_left w before, mul-suc w (a % W / w))

  pub word_lent : {k : ℕ} → Fit W k w a → a / W < k
  word_lent {k} f = (div-lt_iff_lt-mul some).1 (omega (arith, width_some f.aligned, mul_comm W k))

  -- Its address leaves room for kind and width in the number of the access.
  pub address_fits : {k : ℕ} → Fit W k w a → a < per_code
  address_fits {k} f =
      omega (arith, width_some f.aligned, f.range.inside, mul-le-mul_left W f.range.few, div-add-mod per_code W)

  pub part_loaded : (ws : List ℕ) → Aligned W w a
      → read_le (byte (get_or ws (a / W) 0)) (a % W) w ≡ read_le (view W ws) a w
  part_loaded ws f = sym (read_le-view W ws (a / W) (a % W) w (sym (div-add-mod a W)) (one_word f))

  pub part_stored : (ws : List ℕ) (v r : ℕ) → Fit W (length ws) w a
      → byte r ≡ over (a % W) w (laid v (a % W)) (byte (get_or ws (a / W) 0))
      → view W (set ws (a / W) r) ≡ over a w (laid v a) (view W ws)
  part_stored ws v r f =
      view-set W some ws (a / W) (a % W) w v r (sym (div-add-mod a W)) (one_word f.aligned) (word_lent f)
