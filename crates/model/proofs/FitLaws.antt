-- What holds of every access of a list holds of its parts, and of each turn of a loop's list; and the other way round.
-- Assumes nothing.
use mathlib.Core.Path.{◌≡◌}
use mathlib.Core.Logic.{⊎_elim}
use mathlib.Core.List.{List, [], ◌∷◌, ◌++◌}
use Prim.Native.Nat.{ℕ, zero, suc, ◌<◌}
use native.Mathlib.Nat.{eq-or-lt_of_le, le_of_suc-le-suc}
use native.Mathlib.Omega.{arith}
use Rattle.model.specs.Access.{Access}
use Rattle.model.specs.Fit.{Every, none, next}
use Rattle.model.specs.Lists.{upto}

pub every_append : {P : Access → Type 0} {xs ys : List Access} → Every P xs → Every P ys → Every P (xs ++ ys)
every_append none f = f
every_append (next p e) f = next p (every_append e f)

pub every_first : {P : Access → Type 0} (xs ys : List Access) → Every P (xs ++ ys) → Every P xs
every_first [] ys e = none
every_first (x ∷ xs) ys (next p e) = next p (every_first xs ys e)

pub every_second : {P : Access → Type 0} (xs ys : List Access) → Every P (xs ++ ys) → Every P ys
every_second [] ys e = e
every_second (x ∷ xs) ys (next p e) = every_second xs ys e

pub every_turn : {P : Access → Type 0} (n : ℕ) (f : ℕ → List Access) → Every P (upto n f) → (i : ℕ) → i < n
    → Every P (f i)
unfolding upto
every_turn zero f e i l = absurd (omega arith)
every_turn (suc n) f e i l =
    ⊎_elim (λ (q : i ≡ n). rw q (every_second (upto n f) (f n) e)) (every_turn n f (every_first (upto n f) (f n) e) i)
    (eq-or-lt_of_le (le_of_suc-le-suc l))

pub every_upto : {P : Access → Type 0} (n : ℕ) (f : ℕ → List Access) → ((i : ℕ) → i < n → Every P (f i))
    → Every P (upto n f)
unfolding upto
every_upto zero f h = none
every_upto (suc n) f h = every_append (every_upto n f (λ i l. h i (omega arith))) (h n (omega arith))
