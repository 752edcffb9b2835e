-- Laws of digits: a text of nothing else, as its walk uses it, and each of its digits.
-- Assumes nothing.
use Rattle.std.proofs.Common.{◌≡◌, ℕ, zero, suc, ◌<◌, Bool, true, false, ◌&&◌, cond, ltb, List, [], ◌∷◌, length, get_or, fold, refl, ◌∙◌, arith, ltb-true}
use Rattle.std.specs.Char.{is_ascii_hexdigit}
use Rattle.std.proofs.lemmas.Bool.{false≢true}
use Rattle.std.proofs.lemmas.Bool.Decides.{nat_tests}
use Rattle.texts.specs.Digits.{digit_of, all_digits}

-- A digit is what std calls one.
hexdigit : (b : ℕ) → is_ascii_hexdigit b ≡ ltb (digit_of b) 16
unfolding digit_of
hexdigit b = grind (arith, nat_tests)

one_more : (all digit rest : Bool) → ((all && digit) && rest) ≡ (all && cond digit rest false)
one_more true true rest = refl
one_more true false rest = refl
one_more false digit rest = refl

all_from : (all : Bool) (t : List ℕ) → fold (λ (all' : Bool) b. all' && is_ascii_hexdigit b) all t ≡ (all && all_digits t)
unfolding all_digits
all_from true [] = refl
all_from false [] = refl
all_from all (b ∷ t) = all_from (all && is_ascii_hexdigit b) t ∙ rw hexdigit (one_more all (ltb (digit_of b) 16) (all_digits t))

-- The walk over a text, each byte tested by what std calls a digit.
pub all_walked : (t : List ℕ) → fold (λ (all : Bool) b. all && is_ascii_hexdigit b) true t ≡ all_digits t
all_walked t = all_from true t

pub digit_at : (t : List ℕ) (i : ℕ) → all_digits t ≡ true → i < length t → digit_of (get_or t i 0) < 16
unfolding all_digits
digit_at [] i all below = absurd (omega arith)
digit_at (b ∷ t) i all below = go (ltb (digit_of b) 16) refl all (digit_at t) i below
  where
    go : (d : Bool) → ltb (digit_of b) 16 ≡ d → cond d (all_digits t) false ≡ true
        → ((j : ℕ) → all_digits t ≡ true → j < length t → digit_of (get_or t j 0) < 16)
        → (j : ℕ) → j < length (b ∷ t) → digit_of (get_or (b ∷ t) j 0) < 16
    go true is all' rest zero below' = ltb-true (digit_of b) 16 is
    go true is all' rest (suc j) below' = rest j all' (omega arith)
    go false is all' rest j below' = absurd (false≢true all')
