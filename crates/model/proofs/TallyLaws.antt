-- A tally of two lists in a row is the two tallies joined, and that can be done where the lists' lengths add up below 2^64.
-- Assumes nothing.
use mathlib.Core.Path.{◌≡◌, refl, sym, ap, ap₂, ◌∙◌}
use mathlib.Core.Bool.{Bool, true, false, cond}
use mathlib.Core.List.{List, [], ◌∷◌, ◌++◌, map, zip_with}
use Prim.Native.Nat.{ℕ, zero, suc, ◌+◌, ◌^◌, ◌<◌, ◌≤◌, suc-le-suc}
use native.Mathlib.Nat.{zero-add, add_assoc, suc_inj, suc-ne-zero}
use native.Mathlib.Omega.{arith}
use lib.Dec.{eqb}
use lib.ListN.{length, get_or}
use Rattle.model.specs.declared.Work.{Work}
use Rattle.model.specs.Access.{Access, load, store}
use Rattle.model.specs.Tally.{total, load_of, store_of, eight, tally, joined, Summable, Joinable}

pub total-append : (c : Access → ℕ) (xs ys : List Access) → total c (xs ++ ys) ≡ total c xs + total c ys
unfolding total
total-append c [] ys = sym (zero-add (total c ys))
total-append c (x ∷ xs) ys = ap (λ (n : ℕ). c x + n) (total-append c xs ys) ∙ sym (add_assoc (c x) (total c xs) (total c ys))

-- Each count of two lists in a row is the sum of the counts.
totals_append : (cs : List (Access → ℕ)) (xs ys : List Access)
    → map (λ c. total c (xs ++ ys)) cs ≡ zip_with ◌+◌ (map (λ c. total c xs) cs) (map (λ c. total c ys) cs)
unfolding zip_with
totals_append [] xs ys = refl
totals_append (c ∷ cs) xs ys = rw (total-append c xs ys, totals_append cs xs ys)

-- A list of sums, from each of them.
pub from_sums : (a b r : List ℕ) → length a ≡ length b → length r ≡ length a
    → ((i : ℕ) → i < length a → get_or r i 0 ≡ get_or a i 0 + get_or b i 0) → r ≡ zip_with ◌+◌ a b
unfolding zip_with
from_sums [] b [] p q h = refl
from_sums [] b (z ∷ r) p q h = absurd (suc-ne-zero (length r) q)
from_sums (x ∷ a) [] r p q h = absurd (suc-ne-zero (length a) p)
from_sums (x ∷ a) (y ∷ b) [] p q h = absurd (suc-ne-zero (length a) (sym q))
from_sums (x ∷ a) (y ∷ b) (z ∷ r) p q h =
    ap₂ ◌∷◌ (h 0 (omega arith)) (from_sums a b r (suc_inj p) (suc_inj q) (λ i k. h (suc i) (suc-le-suc k)))

-- A record is its counts.
pub same_counts : {a b : Work} → a.counts.numbers ≡ b.counts.numbers → a ≡ b
same_counts p = ap {B = Work} (λ (ns : List ℕ). record { counts = record { numbers = ns } }) p

pub tally-append : (xs ys : List Access) → tally (xs ++ ys) ≡ joined (tally xs) (tally ys)
unfolding tally joined
tally-append xs ys = same_counts (totals_append eight xs ys)

-- A record of two lists in a row, from those of each.
pub counted_then : {a b c : Work} (xs ys : List Access) → a ≡ tally xs → b ≡ tally ys → c ≡ joined a b → c ≡ tally (xs ++ ys)
counted_then xs ys p q r = rw (r, p, q, tally-append xs ys) refl

pub joinable : {a b : Work} (xs ys : List Access) → a ≡ tally xs → b ≡ tally ys → length xs + length ys < 2 ^ 64
    → Joinable a b
joinable xs ys p q h = record { xs = xs; ys = ys; first = p; second = q; fits = h }

-- What counts at most one for each access adds up to at most the list's length: so does each of the eight counts.
pub total_bound : (c : Access → ℕ) → ((x : Access) → c x ≤ 1) → (xs : List Access) → total c xs ≤ length xs
unfolding total
total_bound c h [] = omega arith
total_bound c h (x ∷ xs) = omega (arith, h x, total_bound c h xs)

digit : (b : Bool) → cond b 1 0 ≤ 1
digit true = omega arith
digit false = omega arith

load_once : (width : ℕ) (x : Access) → load_of width x ≤ 1
load_once width (load w a) = digit (eqb w width)
load_once width (store w a) = omega arith

store_once : (width : ℕ) (x : Access) → store_of width x ≤ 1
store_once width (load w a) = omega arith
store_once width (store w a) = digit (eqb w width)

Once : List (Access → ℕ) → Type 0
Once [] = Unit {0}
Once (c ∷ cs) = ((x : Access) → c x ≤ 1) × Once cs

eight_once : Once eight
unfolding Once
eight_once = (
  load_once 1,
  (
    load_once 2,
    (
      load_once 4,
      (load_once 8, (store_once 1, (store_once 2, (store_once 4, (store_once 8, tt))))),
    ),
  ),
)

bound_at : (cs : List (Access → ℕ)) → Once cs → (xs : List Access) (i : ℕ)
    → get_or (map (λ c. total c xs) cs) i 0 ≤ length xs
unfolding Once
bound_at [] h xs i = omega arith
bound_at (c ∷ cs) h xs zero = total_bound c h.0 xs
bound_at (c ∷ cs) h xs (suc i) = bound_at cs h.1 xs i

pub tally_bound : (xs : List Access) (i : ℕ) → get_or (tally xs).counts.numbers i 0 ≤ length xs
unfolding tally
tally_bound xs i = bound_at eight eight_once xs i

tallies_summable : (xs ys : List Access) → length xs + length ys < 2 ^ 64
    → Summable (tally xs).counts.numbers (tally ys).counts.numbers
unfolding tally
tallies_summable xs ys h =
    record { first = refl; second = refl; fits = λ i. omega (arith, tally_bound xs i, tally_bound ys i) }

-- What `join` asks is that no sum of two counts passes 64 bits.
pub joinable_sums : {a b : Work} → Joinable a b → Summable a.counts.numbers b.counts.numbers
joinable_sums j = rw (j.first, j.second) (tallies_summable j.xs j.ys j.fits)
