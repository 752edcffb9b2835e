-- Laws of what stands in front of a list: how many elements pass a test, and whether a text does, in std's words.
-- Assumes nothing.
use Rattle.std.proofs.Common.{◌≡◌, ℕ, suc, ◌+◌, Bool, true, false, cond, ◌&&◌, eqb, List, [], ◌∷◌, length, take, refl, arith, ne_eqb}
use lib.Dec.{eqb-suc-suc}
use Rattle.std.specs.Cmp.Lexicographic.{pointwise}
use Rattle.std.specs.List.{prefix_len}
use Rattle.texts.specs.Texts.{front, starts, is_text}

-- How many elements pass, in std's word.
pub front_is : (test : ℕ → Bool) (s : List ℕ) → front test s ≡ prefix_len test s
unfolding front
front_is test [] = refl
front_is test (b ∷ s) = rw (front_is test s) (go (test b))
  where
    go : (passes : Bool) → ◌≡◌ {A = ℕ} (cond passes (suc (prefix_len test s)) 0) (cond passes (1 + prefix_len test s) 0)
    go true = omega arith
    go false = refl

both : (a b : Bool) → cond a b false ≡ (a && b)
both true b = refl
both false b = refl

-- A text stands in front where std's `==` says so of that many bytes.
pub starts_prefix : (t s : List ℕ) → starts t s ≡ pointwise eqb (take (length t) s) t
unfolding starts
starts_prefix [] s = refl
starts_prefix (a ∷ t) [] = refl
starts_prefix (a ∷ t) (b ∷ s) = rw (starts_prefix t s) (both (eqb b a) (pointwise eqb (take (length t) s) t))

-- It is the text where std's `==` says so.
pub is_text_same : (t s : List ℕ) → is_text t s ≡ pointwise eqb s t
unfolding is_text starts
is_text_same [] [] = refl
is_text_same [] (b ∷ s) = rw (ne_eqb (suc (length s)) 0 (λ e. omega arith))
is_text_same (a ∷ t) [] = rw (ne_eqb 0 (suc (length t)) (λ e. omega arith))
is_text_same (a ∷ t) (b ∷ s) = rw (eqb-suc-suc (length s) (length t), ← is_text_same t s) (go (eqb (length s) (length t)) (eqb b a))
  where
    go : (same equal : Bool) → cond same (cond equal (starts t s) false) false ≡ (equal && cond same (starts t s) false)
    go true true = refl
    go true false = refl
    go false true = refl
    go false false = refl
