-- "Aligns each access to its width", with a width of 1, 2, 4 or 8 bytes; and inside the lent memory where the call is accepted.
-- Assumes nothing.
use mathlib.Core.Path.{◌≡◌, refl, sym}
use mathlib.Core.Bool.{Bool, true, false}
use mathlib.Core.Logic.{◌⊎◌, inl, inr}
use mathlib.Core.List.{[], ◌∷◌}
use Prim.Native.Nat.{ℕ, suc, ◌+◌, ◌*◌, ◌-◌, ◌%◌, ◌<◌, ◌≤◌, min}
use native.Mathlib.Nat.{mod-one, min-le_right, le_of_dvd, dvd_of_mod-eq-zero, mod-eq-zero_of_dvd, dvd-mul_right_of_dvd}
use native.Mathlib.Omega.{arith}
use lib.Dec.{eqb}
use borrow.Author.Tests.{eqb-true, eqb-false}
use Rattle.model.specs.Access.{Access, load, store}
use Rattle.model.specs.Fit.{Aligned, Range, aligns, fits, Every, none as empty, next}
use Rattle.model.specs.Lists.{along, copy_list, upward, move_list, fill_list, compare_list, string_list}
use Rattle.model.specs.Refusals.{none, ruled, ranges_table, copy_table, fill_table, start_table}
use Rattle.model.proofs.FitLaws.{every_upto}
use Rattle.model.proofs.Widths.{last_width}
use Rattle.model.proofs.RefusalLaws.{ranges-accepted, fill_accepted, string_accepted, copy_accepted}
use Rattle.lists.specs.Sizes.{Core, eight_byte, four_byte}
use Rattle.lists.proofs.Cores.{core_some}
use Rattle.lists.proofs.Inside.{fit_in}
use Rattle.lists.proofs.Cursors.{cursor_room, cursor_start}
use Rattle.lists.proofs.Blocks.{aligned, block_every}
use Rattle.lists.proofs.Filled.{fill_block}
use Rattle.lists.proofs.Walked.{along_walk}
use Rattle.lists.proofs.Walks.{walk_every}

eight_divided : {W : ℕ} → Core W → (w : ℕ) → W % w ≡ 0 → 8 % w ≡ 0
eight_divided eight_byte w e = e
eight_divided four_byte w e = mod-eq-zero_of_dvd w (dvd-mul_right_of_dvd w (dvd_of_mod-eq-zero w e) 2)

-- A width that divides the word is 1, 2, 4 or 8, and at most the word.
pub widths : {W : ℕ} → Core W → (w : ℕ) → W % w ≡ 0 → (w ≤ W) × ((w ≡ 1) ⊎ ((w ≡ 2) ⊎ ((w ≡ 4) ⊎ (w ≡ 8))))
widths {W} p w e = (small, go (eqb w 1) refl (eqb w 2) refl (eqb w 4) refl)
  where
    small : w ≤ W
    small = le_of_dvd {m = w} {n = W} (core_some p) (dvd_of_mod-eq-zero w e)

    go : (a : Bool) → eqb w 1 ≡ a → (b : Bool) → eqb w 2 ≡ b → (c : Bool) → eqb w 4 ≡ c
        → (w ≡ 1) ⊎ ((w ≡ 2) ⊎ ((w ≡ 4) ⊎ (w ≡ 8)))
    go true h b i c j = inl (eqb-true w 1 h)
    go false h true i c j = inr (inl (eqb-true w 2 i))
    go false h false i true j = inr (inr (inl (eqb-true w 4 j)))
    go false h false i false j =
        inr (inr (inr (sym (last_width w (eight_divided p w e) (eqb-false w 1 h) (eqb-false w 2 i) (eqb-false w 4 j)))))

-- What holds of every aligned load in the source and every aligned store in the destination holds of every access.
pub along_every : {W : ℕ} {P : Access → Type 0} → Core W → (up : Bool) (dest src n : ℕ)
    → ((w a : ℕ) → Aligned W w a → src ≤ a → a + w ≤ src + n → P (load w a))
    → ((w a : ℕ) → Aligned W w a → dest ≤ a → a + w ≤ dest + n → P (store w a)) → Every P (along up W dest src n)
along_every p up dest src n q r =
    walk_every (cursor_room up dest n) (cursor_room up src n) (along_walk p up dest src n)
    (λ w a h m. q w a h (omega (arith, cursor_start up src n)) (omega (arith, cursor_start up src n)))
    (λ w a h m. r w a h (omega (arith, cursor_start up dest n)) (omega (arith, cursor_start up dest n)))

-- Copy and move: each access is aligned to its width.
pub along_aligned : {W : ℕ} → Core W → (up : Bool) (dest src n : ℕ) → Every (aligns W) (along up W dest src n)
along_aligned p up dest src n = along_every p up dest src n (λ w a h lo hi. h) (λ w a h lo hi. h)

-- Fill: each access is aligned to its width.
pub fill_aligned : {W : ℕ} → Core W → (s n : ℕ) → Every (aligns W) (fill_list W s n)
fill_aligned p s n = block_every (fill_block p s n) (λ w a h lo hi. h)

compare_every : {P : Access → Type 0} (a b n p : ℕ) → ((i : ℕ) → i < n → P (load 1 (a + i)) × P (load 1 (b + i)))
    → Every P (compare_list a b n p)
unfolding compare_list
compare_every a b n p h =
    every_upto (min (suc p) n) (λ i. load 1 (a + i) ∷ load 1 (b + i) ∷ [])
    (λ i l. let k = h i (omega (arith, min-le_right (suc p) n)) in next k.0 (next k.1 empty))

byte : (W a : ℕ) → Aligned W 1 a
byte W a = aligned (mod-one W) (mod-one a)

-- Compare and bcmp: each access is of one byte, and so aligned.
pub compare_aligned : (W a b n p : ℕ) → Every (aligns W) (compare_list a b n p)
compare_aligned W a b n p = compare_every a b n p (λ i l. (byte W (a + i), byte W (b + i)))

string_every : {P : Access → Type 0} (s m p : ℕ) → ((i : ℕ) → i < m → P (load 1 (s + i))) → Every P (string_list s m p)
unfolding string_list
string_every s m p h =
    every_upto (min (suc p) m) (λ i. load 1 (s + i) ∷ [])
    (λ i l. next (h i (omega (arith, min-le_right (suc p) m))) empty)

-- String length: each access is of one byte, and so aligned.
pub string_aligned : (W s m p : ℕ) → Every (aligns W) (string_list s m p)
string_aligned W s m p = string_every s m p (λ i l. byte W (s + i))

-- ---- inside

-- Between ranges inside the memory every access of a copy or move is aligned and inside it.
pub along-fits : {W : ℕ} → Core W → (up : Bool) (k dest src n : ℕ) → Range W k dest n → Range W k src n
    → Every (fits W k) (along up W dest src n)
along-fits p up k dest src n d s =
    along_every p up dest src n (λ w a h lo hi. fit_in src s h lo hi) (λ w a h lo hi. fit_in dest d h lo hi)

-- Every access of an accepted copy.
pub copy_fits : {W : ℕ} → Core W → (k dest src n : ℕ) → ruled (copy_table W k dest src n) ≡ none
    → Every (fits W k) (copy_list W dest src n)
copy_fits {W} p k dest src n e =
    let r = (copy_accepted W k dest src n e).0 in
    along-fits p true k dest src n r.0 r.1

-- Every access of an accepted move.
pub move_fits : {W : ℕ} → Core W → (k dest src n : ℕ) → ruled (ranges_table W k dest src n) ≡ none
    → Every (fits W k) (move_list W dest src n)
move_fits {W} p k dest src n e =
    let r = ranges-accepted W k dest src n e in
    along-fits p (upward dest src n) k dest src n r.0 r.1

-- Every access of an accepted fill.
pub fill_fits : {W : ℕ} → Core W → (k s n : ℕ) → ruled (fill_table W k s n) ≡ none → Every (fits W k) (fill_list W s n)
fill_fits {W} p k s n e =
    block_every (fill_block p s n) (λ w a h lo hi. fit_in s (fill_accepted W k s n e) h lo hi)

-- Every access of an accepted compare or bcmp, wherever it stops.
pub compare_fits : (W k a b n p : ℕ) → ruled (ranges_table W k a b n) ≡ none → Every (fits W k) (compare_list a b n p)
compare_fits W k a b n p e =
    let r = ranges-accepted W k a b n e in
    compare_every a b n p (λ i l. (
      fit_in a r.0 (byte W (a + i)) (omega arith) (omega arith),
      fit_in b r.1 (byte W (b + i)) (omega arith) (omega arith),
    ))

-- Every access of a string length that refusals 1 and 2 let pass, wherever it stops, or finds no zero.
pub string_fits : (W k s p : ℕ) → ruled (start_table W k s) ≡ none
    → Every (fits W k) (string_list s (W * k - s) p)
string_fits W k s p e =
    string_every s (W * k - s) p (λ i l. fit_in s (string_accepted W k s e) (byte W (s + i)) (omega arith) (omega arith))
