-- The first place at which a test holds exists, and is unique: where compare and string length stop.
-- By induction on the number of places. Assumes nothing.
use mathlib.Core.Path.{◌≡◌, refl, ◌∙◌}
use mathlib.Core.Bool.{Bool, true, false, cond}
use Prim.Native.Nat.{ℕ, zero, suc, ◌<◌}
use native.Mathlib.Decide.{dec_lt}
use native.Mathlib.Nat.{le_of_suc-le-suc}
use native.Mathlib.Omega.{arith}
use Rattle.model.specs.Meaning.{first}
use Rattle.model.proofs.RefusalLaws.{not_both}
use Rattle.model.specs.Places.{FirstAt}

-- "The first difference", "the first zero": there is such a place, or it is n.
pub first_exists : (t : ℕ → Bool) (n : ℕ) → FirstAt t n (first t n)
unfolding first
first_exists t zero = record { bound = omega arith; before = λ i l. absurd (omega arith); holds = λ l. absurd (omega arith) }
first_exists t (suc n) = go (t 0) refl (first_exists (λ i. t (suc i)) n)
  where
    go : (b : Bool) → t 0 ≡ b → FirstAt (λ i. t (suc i)) n (first (λ i. t (suc i)) n)
        → FirstAt t (suc n) (cond b 0 (suc (first (λ i. t (suc i)) n)))
    go true e r = record { bound = omega arith; before = λ i l. absurd (omega arith); holds = λ l. e }
    go false e r = record { bound = omega arith; before = earlier; holds = λ l. r.holds (le_of_suc-le-suc l) }
      where
        earlier : (i : ℕ) → i < suc (first (λ i. t (suc i)) n) → t i ≡ false
        earlier zero l = e
        earlier (suc i) l = r.before i (le_of_suc-le-suc l)

not_after : (t : ℕ → Bool) (n p q : ℕ) → FirstAt t n p → FirstAt t n q → p < q → ⊥
not_after t n p q a b l = not_both (t p) (a.holds (omega arith)) (b.before p l)

-- There is only one.
pub first_unique : (t : ℕ → Bool) (n p q : ℕ) → FirstAt t n p → FirstAt t n q → p ≡ q
first_unique t n p q a b = go (dec_lt p q) (dec_lt q p)
  where
    go : Dec (p < q) → Dec (q < p) → p ≡ q
    go (yes l) m = absurd (not_after t n p q a b l)
    go (no l) (yes m) = absurd (not_after t n q p b a m)
    go (no l) (no m) = omega arith

-- Two tests with the same first place stop there.
pub same_place : (t u : ℕ → Bool) (n m p : ℕ) → FirstAt t n p → FirstAt u m p → first t n ≡ first u m
same_place t u n m p a b =
    first_unique t n (first t n) p (first_exists t n) a ∙ first_unique u m p (first u m) b (first_exists u m)
