-- Numbers that a loop writes one behind the other, each as f says: what is written after i of them grows by one (`wrote_next`), and how long it
-- is at most (`each_few`). So a log is written (`list_is`).
-- Assumes nothing.
use Rattle.std.proofs.Common.{◌≡◌, refl, List, [], ◌∷◌, ◌++◌, append_assoc, append-nil, ℕ, zero, suc, ◌+◌, ◌*◌, ◌<◌, ◌≤◌, arith, length, get_or, take, length-append}
use Rattle.std.specs.Prelude.{flat_map}
use Rattle.std.proofs.lemmas.List.{take_more}
use Rattle.std.proofs.lemmas.Grind.{flat_map-append}
use Rattle.show.specs.declared.Out.{Out}
use Rattle.show.specs.Written.{Wrote}
use Rattle.show.specs.LoggedText.{spaced, list_text}
use Rattle.show.proofs.Writing.{wrote_then, wrote_as}

pub wrote_next : (f : ℕ → List ℕ) (ns xs : List ℕ) (i : ℕ) {old mid new : Out} → i < length ns
    → Wrote (xs ++ flat_map f (take i ns)) old mid → Wrote (f (get_or ns i 0)) mid new → Wrote (xs ++ flat_map f (take (i + 1) ns)) old new
wrote_next f ns xs i below w v =
    let same : (xs ++ flat_map f (take i ns)) ++ f (get_or ns i 0) ≡ xs ++ flat_map f (take (i + 1) ns) =
    rw (take_more ns i 0 below) (simp (flat_map-append, append_assoc, append-nil)) in
    wrote_as same (wrote_then w v)

pub each_few : (f : ℕ → List ℕ) (most : ℕ) (ns : List ℕ) → ((j : ℕ) → length (f (get_or ns j 0)) ≤ most) → (i : ℕ)
    → length (flat_map f (take i ns)) ≤ i * most
each_few f most [] few zero = omega arith
each_few f most [] few (suc i) = omega arith
each_few f most (n ∷ ns) few zero = omega arith
each_few f most (n ∷ ns) few (suc i) = simp length-append (omega (arith, few 0, each_few f most ns (λ j. few (suc j)) i))

pub list_is : (ns : List ℕ) → list_text ns ≡ flat_map spaced ns
unfolding list_text
list_is [] = refl
list_is (n ∷ ns) = rw (list_is ns)
