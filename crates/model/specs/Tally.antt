-- Document 01, "The lent memory": the record of a list of accesses, and the sum of two records.
-- Assumes nothing.
use Rattle.std.specs.Prelude.{◌≡◌, ℕ, ◌+◌, ◌^◌, ◌<◌, cond, eqb, length, get_or}
use mathlib.Core.List.{List, [], ◌∷◌, map, zip_with}
use Rattle.model.specs.declared.Work.{Work}
use Rattle.model.specs.Access.{Access, load, store}

-- The sum of what each access of a list counts for.
unfoldable pub total : (Access → ℕ) → List Access → ℕ
total c [] = 0
total c (x ∷ xs) = c x + total c xs

-- One for each load of a width; one for each store of a width.
abbrev pub load_of : ℕ → Access → ℕ
load_of width (load w a) = cond (eqb w width) 1 0
load_of width (store w a) = 0

abbrev pub store_of : ℕ → Access → ℕ
store_of width (load w a) = 0
store_of width (store w a) = cond (eqb w width) 1 0

-- The record has eight counts, loads of 1, 2, 4 and 8 bytes, then stores of 1, 2, 4 and 8 bytes.
abbrev pub eight : List (Access → ℕ)
eight = load_of 1 ∷ load_of 2 ∷ load_of 4 ∷ load_of 8 ∷ store_of 1 ∷ store_of 2 ∷ store_of 4 ∷ store_of 8 ∷ []

unfoldable pub tally : List Access → Work
tally xs = record { counts = record { numbers = map (λ c. total c xs) eight } }

-- Joining two records: the counts add up.
unfoldable pub joined : Work → Work → Work
joined a b = record { counts = record { numbers = zip_with ◌+◌ a.counts.numbers b.counts.numbers } }

-- Eight counts each, whose sums fit 64 bits.
pub record Summable (a b : List ℕ) : Type 0 where
  pub first : length a ≡ 8
  pub second : length b ≡ 8
  pub fits : (i : ℕ) → get_or a i 0 + get_or b i 0 < 2 ^ 64

-- Two records can be joined where they are the tallies of lists whose lengths add up below 2^64: no sum then wraps.
pub record Joinable (a b : Work) : Type 0 where
  pub xs : List Access
  pub ys : List Access
  pub first : a ≡ tally xs
  pub second : b ≡ tally ys
  pub fits : length xs + length ys < 2 ^ 64
