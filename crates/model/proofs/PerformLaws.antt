-- Performing one list and then another is performing both in a row.
-- Assumes nothing.
use mathlib.Core.Path.{◌≡◌, refl}
use mathlib.Core.List.{List, [], ◌∷◌, ◌++◌}
use Prim.Native.Nat.{ℕ}
use Rattle.model.specs.Access.{Access}
use Rattle.model.specs.Perform.{State, step, perform}

pub perform-append : (give : (ℕ → ℕ) → ℕ → ℕ) (xs ys : List Access) (z : State)
    → perform give (xs ++ ys) z ≡ perform give ys (perform give xs z)
unfolding perform
perform-append give [] ys z = refl
perform-append give (x ∷ xs) ys z = perform-append give xs ys (step give x z)
