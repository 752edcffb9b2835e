-- Whether this is that text; texts by number, in a table that holds them in a row.
-- Assumes nothing.
use Rattle.std.specs.Prelude.{ℕ, zero, suc, ◌+◌, Bool, true, false, cond, not, List, [], ◌∷◌, length, take, drop, ◌==◌}
use Prim.Native.Char.{code}

-- The text stands in front.
unfoldable pub starts : List ℕ → List ℕ → Bool
starts [] s = true
starts (t ∷ ts) [] = false
starts (t ∷ ts) (b ∷ s) = cond (b == t) (starts ts s) false

-- It is the text, whole.
unfoldable pub is_text : List ℕ → List ℕ → Bool
is_text text s = cond (length s == length text) (starts text s) false

-- How many bytes in front pass a test.
unfoldable pub front : (ℕ → Bool) → List ℕ → ℕ
front test [] = 0
front test (b ∷ s) = cond (test b) (suc (front test s)) 0

-- Each text of a table ends in `;`. How long the first is, and the first and those after it.
abbrev pub of_text : ℕ → Bool
of_text b = not (b == (code ";"))

abbrev pub first_length : List ℕ → ℕ
first_length table = front of_text table

abbrev pub first_text : List ℕ → List ℕ
first_text table = take (first_length table) table

abbrev pub later_texts : List ℕ → List ℕ
later_texts table = drop (first_length table + 1) table

-- Text i of a table, counted from 0.
unfoldable pub text_at : List ℕ → ℕ → List ℕ
text_at table zero = first_text table
text_at table (suc i) = text_at (later_texts table) i

-- The number of a text among the first `count` of a table; `count` where it is none of them.
unfoldable pub number_in : ℕ → List ℕ → List ℕ → ℕ
number_in zero table text = 0
number_in (suc count) table text = cond (is_text (first_text table) text) 0 (suc (number_in count (later_texts table) text))
