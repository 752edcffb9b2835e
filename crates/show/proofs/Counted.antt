-- As many numbers are shown of a log as its list has accesses: no more (`written-within`), and where each access is aligned, as in the lists of
-- the calls, no fewer (`written_all`). An access counts once among the eight, by its width, and the sum of the eight counts is the sum of
-- what each access counts for (`sum_tally`).
-- Assumes nothing.
use mathlib.Core.Path.{◌≡◌, refl}
use mathlib.Core.Bool.{Bool, true, false, cond}
use mathlib.Core.List.{List, [], ◌∷◌, map}
use Prim.Native.Nat.{ℕ, ◌+◌, ◌%◌, ◌≤◌}
use native.Mathlib.Omega.{arith}
use lib.Dec.{eqb}
use lib.ListN.{length}
use borrow.Author.Tests.{eqb-true, eqb-false}
use Rattle.model.specs.Access.{Access, load, store}
use Rattle.model.specs.Answers.{Said, accepted}
use Rattle.model.specs.Fit.{aligns, Every, none, next}
use Rattle.model.specs.Tally.{total, eight, tally}
use Rattle.model.proofs.TallyLaws.{total_bound}
use Rattle.model.proofs.Widths.{last_width}
use Rattle.model.proofs.WordLaws.{eight_bytes}
use Rattle.show.specs.LoggedText.{sum_of, written}

-- What an access counts for among the eight.
abbrev counts_for : Access → ℕ
counts_for x = sum_of (map (λ (c : Access → ℕ). c x) eight) 8

sum_tally : (xs : List Access) → sum_of (tally xs).counts.numbers 8 ≡ total counts_for xs
unfolding sum_of tally total
sum_tally [] = refl
sum_tally (x ∷ xs) = omega (arith, sum_tally xs)

-- One width, and those after it.
width : (w k rest : ℕ) → (w ≡ k → rest ≡ 0) → rest ≤ 1 → cond (eqb w k) 1 0 + rest ≤ 1
width w k rest other few = go (eqb w k) refl
  where
    go : (b : Bool) → eqb w k ≡ b → cond b 1 0 + rest ≤ 1
    go true is = omega (arith, other (eqb-true w k is))
    go false is = omega arith

one_width : (w : ℕ) → cond (eqb w 1) 1 0 + (cond (eqb w 2) 1 0 + (cond (eqb w 4) 1 0 + (cond (eqb w 8) 1 0 + 0))) ≤ 1
one_width w =
    width w 1 _ (λ is. rw is) (width w 2 _ (λ is. rw is) (width w 4 _ (λ is. rw is) (width w 8 0 (λ is. refl) (omega arith))))

once : (x : Access) → counts_for x ≤ 1
unfolding sum_of
once (load w a) = omega (arith, one_width w)
once (store w a) = omega (arith, one_width w)

pub written-within : (out : Said) (xs : List Access) → written (accepted out xs) ≤ length xs
written-within out xs = rw (sum_tally xs) (total_bound counts_for once xs)

-- The same, exactly: a width that divides 8 is one of the four.
width_is : (w k rest : ℕ) → (w ≡ k → rest ≡ 0) → ((w ≡ k → ⊥) → rest ≡ 1) → cond (eqb w k) 1 0 + rest ≡ 1
width_is w k rest other one = go (eqb w k) refl
  where
    go : (b : Bool) → eqb w k ≡ b → cond b 1 0 + rest ≡ 1
    go true is = omega (arith, other (eqb-true w k is))
    go false is = omega (arith, one (eqb-false w k is))

one_width_is : (w : ℕ) → 8 % w ≡ 0 → cond (eqb w 1) 1 0 + (cond (eqb w 2) 1 0 + (cond (eqb w 4) 1 0 + (cond (eqb w 8) 1 0 + 0))) ≡ 1
one_width_is w divides =
    width_is w 1 _ (λ is. rw is) (λ not1. width_is w 2 _ (λ is. rw is) (λ not2.
    width_is w 4 _ (λ is. rw is) (λ not4. rw (← last_width w divides not1 not2 not4))))

counted : (W : ℕ) (x : Access) → 8 % W ≡ 0 → aligns W x → counts_for x ≡ 1
unfolding sum_of
counted W (load w a) core at' = omega (arith, one_width_is w (eight_bytes core at'))
counted W (store w a) core at' = omega (arith, one_width_is w (eight_bytes core at'))

all_counted : (W : ℕ) {xs : List Access} → 8 % W ≡ 0 → Every (aligns W) xs → total counts_for xs ≡ length xs
unfolding total
all_counted W core none = refl
all_counted W core (next {x} one rest) = omega (arith, counted W x core one, all_counted W core rest)

pub written_all : (W : ℕ) (out : Said) {xs : List Access} → 8 % W ≡ 0 → Every (aligns W) xs → written (accepted out xs) ≡ length xs
written_all W out {xs} core every = rw (sum_tally xs) (all_counted W core every)
