-- Laws of texts by number: the parts that a table is cut into, and what the number of a text says.
-- Assumes nothing.
use Rattle.std.proofs.Common.{◌≡◌, ℕ, zero, suc, ◌+◌, ◌-◌, ◌<◌, ◌≤◌, Bool, true, false, cond, eqb, List, [], ◌∷◌, ◌++◌, length, get_or, drop, sym, refl, ap, ◌∙◌, arith, MatchBool, drop_of_length-le, take_all, length-append, Option, Some, None, Bor, MatchOption}
use denote.Param.Members.{Mut}
use Rattle.std.specs.Fn.{ComputesKey}
use Rattle.std.specs.Iterator.{Yields}
use Rattle.std.specs.List.{IsFirstMatchOrLen}
use Rattle.std.specs.Option.{UnwrapsOrElse}
use Rattle.std.specs.Slice.Iter.{split_steps}
use Rattle.std.specs.declared.slice.Split.{Split}
use Rattle.std.proofs.lemmas.List.Sums.{position_or_len_is}
use Rattle.std.proofs.lemmas.List.{take_at, drop_at, drop-drop}
use Rattle.texts.specs.Texts.{front, of_text, is_text, first_length, first_text, later_texts, text_at, number_in}
use Rattle.texts.proofs.Fronts.{front_is}

-- A byte at which a text ends.
abbrev pub ends : ℕ → Bool
ends b = eqb b 59

-- The part that is cut off a table is its first text, and what is left are the texts after it.
module _ (table part rest : List ℕ) (is : IsFirstMatchOrLen ends table (length part)) where
  first_ends : length part ≤ length table → first_length table ≡ length part
  first_ends few = front_is of_text table ∙ position_or_len_is ends table (length part) 0 few (λ k l. is.0 k 0 (omega arith) l) (λ l. is.1 l 0)

  part_first : (last : Bool) → MatchBool last (table ≡ part) ((y : ℕ) × (table ≡ part ++ (y ∷ rest)))
      → (part ≡ first_text table) × (cond last [] rest ≡ later_texts table)
  part_first true e =
      rw (first_ends (omega (arith, ap length e)), e)
      (sym (take_all (length part) part (omega arith)), sym (drop_of_length-le part (omega arith)))
  part_first false e =
      rw (first_ends (omega (arith, ap length e.1, length-append part (e.0 ∷ rest))), e.1) (
        sym (take_at part (e.0 ∷ rest) (length part) refl),
        ap (drop 1) (sym (drop_at part (e.0 ∷ rest) (length part) refl)) ∙ drop-drop 1 (length part) (part ++ (e.0 ∷ rest)),
      )

-- What is left of a table that `split` cuts.
abbrev pub left_of : {F : Type 0} → Split ℕ F → List ℕ
left_of s = cond s.done [] s.rest.now

-- The next part is its first text, and is empty where nothing is left.
pub next_text : {F : Type 0} (g : Mut F (Bor ℕ × Unit {0}) Bool) (s t : Split ℕ F) (r : Option (Bor (List ℕ))) (x : Bor (List ℕ))
    → split_steps g s r t → ComputesKey g ends s.pred → UnwrapsOrElse r (λ y. y.now ≡ []) x
    → (x.now ≡ first_text (left_of s)) × (left_of t ≡ later_texts (left_of s))
unfolding front
next_text g s t None x steps key none = rw (steps.1, steps.0) (none, refl)
next_text g s t (Some y) x steps key is =
    rw (is, steps.0) (part_first s.rest.now y.now t.rest.now (steps.2 ends key).1 t.done steps.1)

text_none : (i : ℕ) → text_at [] i ≡ []
unfolding text_at front
text_none zero = refl
text_none (suc i) = text_none i

-- The parts that came before part i, which may be none.
abbrev pub Before : Option (Bor (List ℕ)) → ℕ → ℕ → Type 0
Before r n i = MatchOption r (n ≤ i) (λ _. n ≡ i)

not_before : (r : Option (Bor (List ℕ))) (n : ℕ) → Before r (suc n) 0 → ⊥
not_before None n few = omega arith
not_before (Some y) n same = omega arith

before_one : (r : Option (Bor (List ℕ))) (n i : ℕ) → Before r (suc n) (suc i) → Before r n i
before_one None n i few = omega arith
before_one (Some y) n i same = omega arith

-- So part i is text i.
pub nth_text : {F : Type 0} (g : Mut F (Bor ℕ × Unit {0}) Bool) (s t u : Split ℕ F) (r : Option (Bor (List ℕ))) (x : Bor (List ℕ)) (i : ℕ)
    (xs : List (Bor (List ℕ))) → Yields (split_steps g) s xs t → split_steps g t r u → Before r (length xs) i
    → ComputesKey g ends s.pred → UnwrapsOrElse r (λ y. y.now ≡ []) x → x.now ≡ text_at (left_of s) i
unfolding text_at
nth_text g s t u None x i [] here steps before key none = rw (here, steps.0) (none ∙ sym (text_none i))
nth_text g s t u (Some y) x zero [] here steps before key is =
    let from_s : split_steps g s (Some y) u = rw (← here) at steps in
    (next_text g s u (Some y) x from_s key is).0
nth_text g s t u (Some y) x (suc i) [] here steps before key is = absurd (omega arith)
nth_text g s t u r x zero (y ∷ xs) on steps before key is = absurd (not_before r (length xs) before)
nth_text g s t u r x (suc i) (y ∷ xs) on steps before key is =
    let first = next_text g s on.0 (Some y) y on.1 key refl in
    nth_text g on.0 t u r x i xs on.2 steps (before_one r (length xs) i before) (on.1.2 ends key).0 is
    ∙ ap (λ (table : List ℕ). text_at table i) first.1

module _ (table text : List ℕ) (i count : ℕ) where
  pub number_next : i < count
      → number_in (count - i) table text ≡ cond (is_text (first_text table) text) 0 (suc (number_in (count - (i + 1)) (later_texts table) text))
  unfolding number_in
  number_next below =
      let more : count - i ≡ suc (count - (i + 1)) = omega arith in
      rw more

  pub number_none : count ≤ i → number_in (count - i) table text ≡ 0
  unfolding number_in
  number_none past = let none : count - i ≡ 0 = omega arith in rw none

pub number_within : (n : ℕ) (table text : List ℕ) → number_in n table text ≤ n
unfolding number_in
number_within zero table text = omega arith
number_within (suc n) table text = go (is_text (first_text table) text) (number_within n (later_texts table) text)
  where
    go : (b : Bool) → number_in n (later_texts table) text ≤ n → cond b 0 (suc (number_in n (later_texts table) text)) ≤ suc n
    go true few = omega arith
    go false few = omega arith

-- The first texts of a table as a list, and the number of a text in such a list.
abbrev pub texts_of : ℕ → List ℕ → List (List ℕ)
texts_of zero table = []
texts_of (suc n) table = first_text table ∷ texts_of n (later_texts table)

unfoldable pub number_among : List (List ℕ) → List ℕ → ℕ
number_among [] text = 0
number_among (first ∷ later) text = cond (is_text first text) 0 (suc (number_among later text))

pub text_of : (n i : ℕ) (table : List ℕ) → i < n → text_at table i ≡ get_or (texts_of n table) i []
unfolding text_at
text_of zero i table below = absurd (omega arith)
text_of (suc n) zero table below = refl
text_of (suc n) (suc i) table below = text_of n i (later_texts table) (omega arith)

pub number_among_lem : (n : ℕ) (table text : List ℕ) → number_in n table text ≡ number_among (texts_of n table) text
unfolding number_in number_among
number_among_lem zero table text = refl
number_among_lem (suc n) table text = rw (number_among_lem n (later_texts table) text)
