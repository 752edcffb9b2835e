-- docs/TEXT-FORM.md, "Lines": the fields of a line.
-- Assumes nothing.
use Rattle.std.specs.Prelude.{Bool, true, false, cond, not, List, [], ◌∷◌, ◌≡◌, ℕ, zero, suc, ◌+◌, ◌-◌, ◌≤◌, eqb, length, take, drop}
use Prim.Native.Char.{code}
use Rattle.texts.specs.Texts.{front}
use Rattle.std.specs.declared.ops.Range.{Range}

-- A space; a tab and a carriage return count as spaces.
abbrev pub blank : ℕ → Bool
blank b = cond (eqb b (code " ")) true (cond (eqb b (code "\t")) true (eqb b (code "\r")))

-- A byte of a field is neither a blank nor `#`, which starts a comment.
abbrev pub belongs : ℕ → Bool
belongs b = cond (eqb b (code "#")) false (not (blank b))

-- Each call of a test answers as `passes` does.
abbrev pub AnswersAs : (ℕ → Bool → Type 0) → (ℕ → Bool) → Type 0
AnswersAs test passes = (b : ℕ) (answer : Bool) → test b answer → answer ≡ passes b

-- Without the blanks in front.
abbrev pub trimmed : List ℕ → List ℕ
trimmed s = drop (front blank s) s

-- The first field, which is empty where there is none, where it ends, and what comes after it.
unfoldable pub field_of : List ℕ → List ℕ
field_of s = take (front belongs (trimmed s)) (trimmed s)

unfoldable pub field_end : List ℕ → ℕ
field_end s = front blank s + front belongs (trimmed s)

abbrev pub after : List ℕ → List ℕ
after s = drop (field_end s) s

-- What comes after the first i fields, and field i of a line, counted from 0.
unfoldable pub after_fields : List ℕ → ℕ → List ℕ
after_fields s zero = s
after_fields s (suc i) = after_fields (after s) i

abbrev pub field_at : List ℕ → ℕ → List ℕ
field_at s i = field_of (after_fields s i)

abbrev pub is_empty : List ℕ → Bool
is_empty [] = true
is_empty (b ∷ s) = false

-- Where the first field stands.
pub record Spans (s : List ℕ) (r : Range ℕ) : Type 0 where
  pub ends : r.end ≡ field_end s
  pub order : r.start ≤ r.end
  pub inside : r.end ≤ length s
  pub text : take (r.end - r.start) (drop r.start s) ≡ field_of s
