-- The place at which compare and string length stop fixes the list, and so its cost; and the addresses of a string's list.
-- Assumes nothing.
use mathlib.Core.Path.{◌≡◌, refl, sym, ap, ap₂, ◌∙◌}
use mathlib.Core.List.{List, [], ◌∷◌, ◌++◌, map, map-append}
use Prim.Native.Nat.{ℕ, zero, suc, ◌+◌, ◌*◌, ◌/◌, ◌%◌, min}
use native.Mathlib.Nat.{add_assoc, div-add-mod}
use Rattle.model.specs.Access.{Access, load}
use Rattle.model.specs.Lists.{upto, compare_list, string_list}
use Rattle.model.specs.Meaning.{unequal, difference, is_null, strlen}
use Rattle.model.specs.Places.{FirstAt}
use Rattle.model.proofs.FirstLaws.{same_place}
use Rattle.lists.specs.Raised.{raised}

-- Compare and bcmp "count the same if the first difference [..] stands at the same place in both, or in neither": in two memories f
-- and g the list is the same.
pub same_difference : (s1 s2 n p : ℕ) (f g : ℕ → ℕ) → FirstAt (unequal s1 s2 f) n p → FirstAt (unequal s1 s2 g) n p
    → compare_list s1 s2 n (difference s1 s2 n f) ≡ compare_list s1 s2 n (difference s1 s2 n g)
same_difference s1 s2 n p f g a b = ap (compare_list s1 s2 n) (same_place (unequal s1 s2 f) (unequal s1 s2 g) n n p a b)

-- And string length if the first zero does.
pub same_zero : (s m p : ℕ) (f g : ℕ → ℕ) → FirstAt (is_null s f) m p → FirstAt (is_null s g) m p
    → string_list s m (strlen s m f) ≡ string_list s m (strlen s m g)
same_zero s m p f g a b = ap (string_list s m) (same_place (is_null s f) (is_null s g) m m p a b)

-- The loads of the scan, which is handed the words from the one that holds the start, are those of the list.
bytes_raised : (b s n : ℕ) → map (raised b) (upto n (λ i. load 1 (s + i) ∷ [])) ≡ upto n (λ i. load 1 (b + s + i) ∷ [])
unfolding upto
bytes_raised b s zero = refl
bytes_raised b s (suc n) =
    map-append (raised b) (upto n (λ i. load 1 (s + i) ∷ [])) (load 1 (s + n) ∷ [])
    ∙ ap₂ (λ (xs : List Access) (a : ℕ). xs ++ (load 1 a ∷ [])) (bytes_raised b s n) (sym (add_assoc b s n))

pub string_raised : (W s m p : ℕ) → map (raised (W * (s / W))) (string_list (s % W) m p) ≡ string_list s m p
unfolding string_list
string_raised W s m p =
    bytes_raised (W * (s / W)) (s % W) (min (suc p) m)
    ∙ ap (λ (a : ℕ). upto (min (suc p) m) (λ i. load 1 (a + i) ∷ [])) (div-add-mod s W)
