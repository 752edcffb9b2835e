-- What each call answers, and the words that it leaves, for all inputs: document 01's refusals, lists and meaning put together.
-- Assumes nothing.
use Rattle.std.specs.Prelude.{ℕ, cond, List, [], eqb, ℤ, length, Result, Ok, Err}
use Rattle.model.specs.declared.Work.{Work}
use Rattle.model.specs.declared.Answer.{Answer}
use Rattle.model.specs.declared.Outcome.{Outcome}
use Rattle.model.specs.declared.Outcome.TheVariants.{Address, Number, Length, Refused}
use Rattle.model.specs.declared.Refusal.{Refusal}
use Rattle.model.specs.declared.Refusal.TheVariants.{TooLarge, FirstOutside, SecondOutside, Overlap, NoZero, ShortLog}
use Rattle.model.specs.Access.{Access}
use Rattle.model.specs.Tally.{tally}
use Rattle.model.specs.Lists.{copy_list, move_list, fill_list, compare_list, string_list}
use Rattle.model.specs.Memory.{view, packed}
use Rattle.model.specs.Meaning.{memcpy, memmove, memset, memcmp, bcmp, difference}
use Rattle.model.specs.Refusals.{Ruling, none, given, checked, to_end, zero_at, copy_table, ranges_table, fill_table, string_table}

-- The outcome is an address, a signed number, a length or a refusal number. Each answer is an outcome together with its counts.
pub data Said : Type 0 where
  an_address : ℕ → Said
  a_number : ℤ → Said
  a_length : ℕ → Said
  a_refusal : ℕ → Said

-- The refusal that an outcome is, if it is one.
abbrev pub refusal_in : Said → Ruling
refusal_in (an_address a) = none
refusal_in (a_number z) = none
refusal_in (a_length n) = none
refusal_in (a_refusal r) = given r

pub record Reply : Type 0 where
  pub said : Said
  pub counts : List ℕ

-- This paper's number and values for each case of the answer's enums.
abbrev pub number_of : Refusal → ℕ
number_of TooLarge = 1
number_of FirstOutside = 2
number_of SecondOutside = 3
number_of Overlap = 4
number_of NoZero = 5
number_of ShortLog = 6

-- What the checks of a call find, before it makes an access.
abbrev pub ruling_of : Result (Unit {0}) Refusal → Ruling
ruling_of (Ok _) = none
ruling_of (Err why) = given (number_of why)

abbrev pub said_of : Outcome → Said
said_of (Address a) = an_address a
said_of (Number z) = a_number z
said_of (Length n) = a_length n
said_of (Refused r) = a_refusal (number_of r)

abbrev pub answered : Answer → Reply
answered r = record { said = said_of r.outcome; counts = r.counts.numbers }

-- An outcome with the counts of what was done; with those of a list; a refusal, which leaves all counts zero.
abbrev pub replied : Said → Work → Reply
replied out w = record { said = out; counts = w.counts.numbers }

abbrev pub accepted : Said → List Access → Reply
accepted out xs = replied out (tally xs)

abbrev pub refused : ℕ → Reply
refused r = accepted (a_refusal r) []

-- Copy, move and fill answer the destination given. Neither their outcome nor their counts look at a byte.
unfoldable pub copy_answer : ℕ → ℕ → ℕ → ℕ → ℕ → Reply
copy_answer W k dest src n = checked (copy_table W k dest src n) refused (accepted (an_address dest) (copy_list W dest src n))

unfoldable pub move_answer : ℕ → ℕ → ℕ → ℕ → ℕ → Reply
move_answer W k dest src n = checked (ranges_table W k dest src n) refused (accepted (an_address dest) (move_list W dest src n))

unfoldable pub fill_answer : ℕ → ℕ → ℕ → ℕ → Reply
fill_answer W k s n = checked (fill_table W k s n) refused (accepted (an_address s) (fill_list W s n))

-- A refusal leaves the memory as found.
unfoldable pub copy_words : ℕ → List ℕ → ℕ → ℕ → ℕ → List ℕ
copy_words W ws dest src n =
    checked (copy_table W (length ws) dest src n) (λ r. ws) (packed W (length ws) (memcpy dest src n (view W ws)))

unfoldable pub move_words : ℕ → List ℕ → ℕ → ℕ → ℕ → List ℕ
move_words W ws dest src n =
    checked (ranges_table W (length ws) dest src n) (λ r. ws) (packed W (length ws) (memmove dest src n (view W ws)))

unfoldable pub fill_words : ℕ → List ℕ → ℕ → ℤ → ℕ → List ℕ
fill_words W ws s c n = checked (fill_table W (length ws) s n) (λ r. ws) (packed W (length ws) (memset s c n (view W ws)))

-- Compare, bcmp and string length change nothing. Their lists end at the first difference, or at the first zero.
abbrev comparing : ℕ → List ℕ → ℕ → ℕ → ℕ → ℤ → Reply
comparing W ws s1 s2 n z =
    checked (ranges_table W (length ws) s1 s2 n) refused
    (accepted (a_number z) (compare_list s1 s2 n (difference s1 s2 n (view W ws))))

unfoldable pub compare_answer : ℕ → List ℕ → ℕ → ℕ → ℕ → Reply
compare_answer W ws s1 s2 n = comparing W ws s1 s2 n (memcmp s1 s2 n (view W ws))

unfoldable pub bcmp_answer : ℕ → List ℕ → ℕ → ℕ → ℕ → Reply
bcmp_answer W ws s1 s2 n = comparing W ws s1 s2 n (bcmp s1 s2 n (view W ws))

-- Refusal 5 alone has counts: of the M - s one-byte loads that found no zero.
abbrev string_refused : List Access → ℕ → Reply
string_refused xs r = accepted (a_refusal r) (cond (eqb r 5) xs [])

abbrev measuring : ℕ → List ℕ → ℕ → ℕ → List Access → Reply
measuring W ws s z xs = checked (string_table W ws s) (string_refused xs) (accepted (a_length z) xs)

unfoldable pub string_answer : ℕ → List ℕ → ℕ → Reply
string_answer W ws s = measuring W ws s (zero_at W ws s) (string_list s (to_end W ws s) (zero_at W ws s))
