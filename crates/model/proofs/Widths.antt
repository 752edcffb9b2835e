-- A width that divides 8 is 1, 2, 4 or 8, which is 2 to its code; and the record of one access has a one at its own kind and code.
-- Assumes nothing.
use mathlib.Core.Path.{◌≡◌, refl, sym, subst}
use mathlib.Core.Bool.{Bool, true, false, not, ◌&&◌, ◌||◌}
use mathlib.Core.Logic.{⊎_elim}
use mathlib.Core.List.{[], ◌∷◌}
use Prim.Native.Nat.{ℕ, zero, suc, ◌+◌, ◌%◌, ◌^◌, ◌<◌}
use native.Mathlib.Nat.{eq-or-lt_of_le, le_of_suc-le-suc, le_of_dvd, dvd_of_mod-eq-zero}
use native.Mathlib.Omega.{arith}
use lib.Dec.{T, eqb, ltb, eqb→eq, ltb→lt}
use lib.ListN.{set, replicate}
use borrow.Author.Tests.{eq-eqb, ne_eqb}
use Rattle.model.specs.Access.{load, store}
use Rattle.model.specs.Log.{width_code}
use Rattle.model.specs.Tally.{total, tally}

-- A test that is computed to pass at every number below n passes at each of them.
abbrev pub all_below : (ℕ → Bool) → ℕ → Bool
all_below t zero = true
all_below t (suc n) = t n && all_below t n

pub both : (a b : Bool) → T (a && b) → T a × T b
both true b h = (tt, h)
both false b h = absurd h

pub below : (t : ℕ → Bool) (n : ℕ) → T (all_below t n) → (i : ℕ) → i < n → T (t i)
below t zero h i l = absurd (omega arith)
below t (suc n) h i l =
    ⊎_elim (λ e. subst (λ (k : ℕ). T (t k)) (sym e) (both (t n) (all_below t n) h).0)
    (below t n (both (t n) (all_below t n) h).1 i) (eq-or-lt_of_le (le_of_suc-le-suc l))

known : ℕ → Bool
known w = not (eqb (8 % w) 0) || eqb w 1 || eqb w 2 || eqb w 4 || eqb w 8

pub last_width : (w : ℕ) → 8 % w ≡ 0 → (w ≡ 1 → ⊥) → (w ≡ 2 → ⊥) → (w ≡ 4 → ⊥) → 8 ≡ w
unfolding known
last_width w h not1 not2 not4 =
    sym (eqb→eq w 8 (rw (eq-eqb (8 % w) 0 h, ne_eqb w 1 not1, ne_eqb w 2 not2, ne_eqb w 4 not4) at
    (below known 9 tt w (omega (arith, le_of_dvd {m = w} {n = 8} (omega arith) (dvd_of_mod-eq-zero w h))))))

-- A width below 16 that is a power of 2 has that power as its code.
pub code_back : (code : ℕ) → code < 4 → width_code (2 ^ code) ≡ code
code_back zero l = refl
code_back (suc zero) l = refl
code_back (suc (suc zero)) l = refl
code_back (suc (suc (suc zero))) l = refl
code_back (suc (suc (suc (suc code)))) l = absurd (omega arith)

-- A width that divides 8 is 2 to its code, which is below 4.
coded : ℕ → Bool
coded w = not (eqb (8 % w) 0) || (ltb (width_code w) 4 && eqb (2 ^ width_code w) w)

pub code_power : (w : ℕ) → 8 % w ≡ 0 → (width_code w < 4) × (2 ^ width_code w ≡ w)
unfolding coded
code_power w h =
    let small : w < 9 = omega (arith, le_of_dvd {m = w} {n = 8} (omega arith) (dvd_of_mod-eq-zero w h)) in
    let passed = both (ltb (width_code w) 4) (eqb (2 ^ width_code w) w) (rw (eq-eqb (8 % w) 0 h) at (below coded 9 tt w small)) in
    (ltb→lt (width_code w) 4 passed.0, eqb→eq (2 ^ width_code w) w passed.1)

-- Loads stand in the first four places, by the code of their width, and stores in the last four.
pub one_access : (code at : ℕ) → code < 4
    → (set (replicate 8 0) code 1 ≡ (tally (load (2 ^ code) at ∷ [])).counts.numbers)
    × (set (replicate 8 0) (4 + code) 1 ≡ (tally (store (2 ^ code) at ∷ [])).counts.numbers)
unfolding total tally
one_access zero at l = (refl, refl)
one_access (suc zero) at l = (refl, refl)
one_access (suc (suc zero)) at l = (refl, refl)
one_access (suc (suc (suc zero))) at l = (refl, refl)
one_access (suc (suc (suc (suc code)))) at l = absurd (omega arith)
