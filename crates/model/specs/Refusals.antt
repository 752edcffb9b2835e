-- Document 01, "Refusal numbers": the table, for each call.
-- Assumes nothing.
use Rattle.std.specs.Prelude.{ℕ, ◌+◌, ◌*◌, ◌-◌, Bool, false, cond, ◌&&◌, ◌||◌, List, [], ◌∷◌, ◌++◌, leb, ltb, eqb, length}
use Rattle.model.specs.Access.{Access}
use Rattle.model.specs.Memory.{most_words, view}
use Rattle.model.specs.Meaning.{strlen}

-- A line of the table: the number, and whether what it is given for holds.
pub record Line : Type 0 where
  pub number : ℕ
  pub holds : Bool

-- Checked in this order; the first that holds is given, and none otherwise.
unfoldable pub checked : {A : Type 0} → List Line → (ℕ → A) → A → A
checked [] refused accepted = accepted
checked (l ∷ ls) refused accepted = cond l.holds (refused l.number) (checked ls refused accepted)

-- Some line holds.
unfoldable pub some_holds : List Line → Bool
some_holds [] = false
some_holds (l ∷ ls) = l.holds || some_holds ls

-- What is given: the number of a refusal, or none, and the call is accepted.
pub data Ruling : Type 0 where
  none : Ruling
  given : ℕ → Ruling

abbrev pub ruled : List Line → Ruling
ruled lines = checked lines given none

-- 1, all calls: k > 8,192 (on a core of 8-byte words).
abbrev pub too_large : ℕ → ℕ → Line
too_large W k = record { number = 1; holds = ltb (most_words W) k }

-- A range leaves the memory: address + n > M.
abbrev pub outside : ℕ → ℕ → ℕ → ℕ → Line
outside r M a n = record { number = r; holds = ltb M (a + n) }

-- 2, destination, fill start or first range.
abbrev pub first_outside : ℕ → ℕ → ℕ → Line
first_outside M a n = outside 2 M a n

-- 2, string length: address >= M.
abbrev pub start_outside : ℕ → ℕ → Line
start_outside M s = record { number = 2; holds = leb M s }

-- 3, source or second range.
abbrev pub second_outside : ℕ → ℕ → ℕ → Line
second_outside M a n = outside 3 M a n

-- 4, copy: n > 0 and dest < src + n and src < dest + n.
abbrev pub overlap : ℕ → ℕ → ℕ → Line
overlap dest src n = record { number = 4; holds = ltb 0 n && ltb dest (src + n) && ltb src (dest + n) }

-- String length: the bytes from the start to M - 1, and the place of the first zero among them; their number where there is none.
abbrev pub to_end : ℕ → List ℕ → ℕ → ℕ
to_end W ws s = W * length ws - s

abbrev pub zero_at : ℕ → List ℕ → ℕ → ℕ
zero_at W ws s = strlen s (to_end W ws s) (view W ws)

-- 5, string length: no zero byte from the start to M - 1.
abbrev pub no_zero : ℕ → List ℕ → ℕ → Line
no_zero W ws s = record { number = 5; holds = eqb (zero_at W ws s) (to_end W ws s) }

-- 6, logged calls: the log is shorter than the list.
abbrev pub short_log : ℕ → ℕ → Line
short_log room accesses = record { number = 6; holds = ltb room accesses }

-- The lines of each call, with M = W k. Move, compare and bcmp have two ranges, and nothing more.
unfoldable pub ranges_table : ℕ → ℕ → ℕ → ℕ → ℕ → List Line
ranges_table W k a b n = too_large W k ∷ first_outside (W * k) a n ∷ second_outside (W * k) b n ∷ []

unfoldable pub copy_table : ℕ → ℕ → ℕ → ℕ → ℕ → List Line
copy_table W k dest src n = ranges_table W k dest src n ++ (overlap dest src n ∷ [])

unfoldable pub fill_table : ℕ → ℕ → ℕ → ℕ → List Line
fill_table W k s n = too_large W k ∷ first_outside (W * k) s n ∷ []

-- A logged call has the lines of its call, and 6 last.
unfoldable pub log_table : List Line → List Access → ℕ → List Line
log_table lines xs room = lines ++ (short_log room (length xs) ∷ [])

-- String length: what is checked before a byte is read, and then 5.
unfoldable pub start_table : ℕ → ℕ → ℕ → List Line
start_table W k s = too_large W k ∷ start_outside (W * k) s ∷ []

unfoldable pub string_table : ℕ → List ℕ → ℕ → List Line
string_table W ws s = start_table W (length ws) s ++ (no_zero W ws s ∷ [])
