-- The code's tables are the rows: the row of a line's word by its number in the table of words, and the fields of that row.
-- Assumes nothing.
use Rattle.std.proofs.Common.{◌≡◌, ℕ, zero, suc, ◌-◌, ◌<◌, ◌≤◌, Bool, true, false, cond, ltb, leb, List, [], ◌∷◌, map, length, get_or, take, drop, Result, Ok, Err, refl, sym, ap, ◌∙◌, arith, leb-true, lt-ltb}
use lib.Dec.{leb-suc-suc}
use lib.ListN.{get_or-map}
use Rattle.std.proofs.lemmas.Bool.{false≢true}
use Rattle.std.proofs.lemmas.Bool.Decides.{nat_tests}
use Rattle.texts.specs.Texts.{front, is_text, text_at, number_in}
use Rattle.std.proofs.lemmas.List.{take_rest}
use Rattle.texts.proofs.TextLaws.{texts_of, number_among, text_of, number_within, number_among_lem}
use Rattle.commands.specs.declared.Command.{Command}
use Rattle.commands.specs.declared.Command.TheVariants.{Nothing}
use Rattle.commands.specs.declared.Why.{Why}
use Rattle.commands.specs.declared.Why.TheVariants.{UnknownWord}
use Rattle.commands.specs.Fields.{field_of, field_end}
use Rattle.commands.specs.Sizes.{most_fields, row_count}
use Rattle.commands.specs.Tables.{word_table, kind_table, row_at}
use Rattle.commands.proofs.Reading.{field_empty}
use Rattle.commands.specs.Commands.{Reading, read_from, Row, row, choose, rows, made, read_by, look_up}

abbrev no_row : Row
no_row = row "" "" (λ n. Ok Nothing)

-- The tables, computed.
words_tied : (s : List ℕ) → texts_of row_count word_table ≡ map (λ (r : Row). r.word) (rows s)
unfolding front
words_tied s = refl

kinds_tied : (s : List ℕ) → texts_of row_count kind_table ≡ map (λ (r : Row). r.kinds) (rows s)
unfolding front
kinds_tied s = refl

kinds_at : (s : List ℕ) (i : ℕ) → i < row_count → text_at kind_table i ≡ (row_at s i).kinds
kinds_at s i below =
    text_of row_count i kind_table below ∙ ap (λ (ts : List (List ℕ)). get_or ts i []) (kinds_tied s)
    ∙ get_or-map (λ (r : Row). r.kinds) (rows s) i no_row

-- Every row has few kinds.
abbrev all_few : List (List ℕ) → Bool
all_few [] = true
all_few (t ∷ ts) = cond (leb (length t) most_fields) (all_few ts) false

few_at : (ts : List (List ℕ)) → all_few ts ≡ true → (i : ℕ) → length (get_or ts i []) ≤ most_fields
few_at [] all i = omega arith
few_at (t ∷ ts) all i = go (leb (length t) most_fields) refl all (few_at ts) i
  where
    go : (b : Bool) → leb (length t) most_fields ≡ b → cond b (all_few ts) false ≡ true
        → (all_few ts ≡ true → (j : ℕ) → length (get_or ts j []) ≤ most_fields) → (j : ℕ) → length (get_or (t ∷ ts) j []) ≤ most_fields
    go true few all' rest zero = leb-true (length t) most_fields few
    go true few all' rest (suc j) = rest all' j
    go false few all' rest j = absurd (false≢true all')

pub kinds_few : (i : ℕ) → i < row_count → length (text_at kind_table i) ≤ most_fields
unfolding front
kinds_few i below = rw (text_of row_count i kind_table below) (few_at (texts_of row_count kind_table) refl i)

-- What the line of a row says, as the code reads its fields.
pub row_read : (most : ℕ) (s : List ℕ) (i end : ℕ) (kinds : List ℕ) (found : Reading) → i < row_count → end ≡ field_end s
    → kinds ≡ text_at kind_table i → read_from most (take (length s - end) (drop end s)) 0 (λ j. 0) kinds ≡ found
    → made (row_at s i).says found ≡ read_by most s (row_at s i)
row_read most s i end kinds found below ends is read =
    ap (made (row_at s i).says) (sym (rw (← kinds_at s i below, ← is, ← ends, ← take_rest s end) read))

-- The row of a word, by its number in the table of words.
module _ (most : ℕ) (s : List ℕ) where
  abbrev found_at : List Row → ℕ → ℕ → Result Command Why
  found_at rs n i = cond (ltb i n) (read_by most s (get_or rs i no_row)) (Err UnknownWord)

  looked : (rs : List Row) → look_up most s rs ≡ found_at rs (length rs) (number_among (map (λ (r : Row). r.word) rs) (field_of s))
  unfolding look_up number_among choose
  looked [] = refl
  looked (r ∷ rs) = go (is_text r.word (field_of s)) (number_among (map (λ (r' : Row). r'.word) rs) (field_of s)) (looked rs)
    where
      go : (b : Bool) (i : ℕ) → look_up most s rs ≡ found_at rs (length rs) i
          → cond b (read_by most s r) (look_up most s rs) ≡ found_at (r ∷ rs) (suc (length rs)) (cond b 0 (suc i))
      go true i rest = rw (lt-ltb 0 (suc (length rs)) (omega arith))
      go false i rest = rw (leb-suc-suc (suc i) (length rs)) rest

  pub row_of_word : look_up most s (rows s) ≡ found_at (rows s) row_count (number_in row_count word_table (field_of s))
  row_of_word =
      looked (rows s)
      ∙ ap (found_at (rows s) row_count)
      (sym (number_among_lem row_count word_table (field_of s) ∙ ap (λ (ts : List (List ℕ)). number_among ts (field_of s)) (words_tied s)))

-- What the check of `command_of` needs.
pub ruleset command_rules = (nat_tests, field_empty, row_of_word, number_within)
