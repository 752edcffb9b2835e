-- docs/TEXT-FORM.md, "Commands and answers" and "Bad lines": what a line says. A command is a row: its word, the kinds of its fields, and
-- what it says of their numbers. Fields are looked at one by one, and the first thing wrong gives the reason.
-- Assumes nothing.
use Rattle.std.specs.Prelude.{Bool, cond, List, [], ◌∷◌, ℕ, ◌+◌, ◌/◌, ◌%◌, eqb, leb, ltb, ℤ, pos, length, Option, Some, None, Result, Ok, Err}
use Prim.Native.Char.{code}
use Prim.Native.String.{String}
use Rattle.texts.specs.Codes.{codes}
use Rattle.texts.specs.Texts.{is_text}
use Rattle.commands.specs.declared.Why.{Why}
use Rattle.commands.specs.declared.Why.TheVariants.{TooLong, UnknownWord, WrongFields, NoNumber, TooManyWords, TooMuchRoom, OddDigits, OutsideMemory}
use Rattle.commands.specs.declared.Call.{Call}
use Rattle.commands.specs.declared.Call.TheVariants.{Copy, Move, Compare, Bcmp}
use Rattle.commands.specs.declared.Command.{Command}
use Rattle.commands.specs.declared.Command.TheVariants.{Nothing, Ranges, Fill, Strlen, CopyLog, MoveLog, FillLog, Put, Get, Clear}
use Rattle.texts.specs.Digits.{all_digits}
use Rattle.commands.specs.Fields.{field_of, after, field_at, is_empty}
use Rattle.texts.specs.Numbers.{number_of, value_of}
use Rattle.commands.specs.Sizes.{most_line, memory_bytes, most_room}

-- `n`: a number.
abbrev pub given : Option ℕ → Result ℕ Why
given (Some n) = Ok n
given None = Err NoNumber

unfoldable pub number_field : List ℕ → Result ℕ Why
number_field t = given (number_of t)

-- `k`: how many words are lent, at most all of them. `r`: the numbers of a log, at most `most_room`. Each has a reason for more.
abbrev pub at_most : Why → ℕ → Result ℕ Why → Result ℕ Why
at_most many most (Ok n) = cond (ltb most n) (Err many) (Ok n)
at_most many most (Err why) = Err why

unfoldable pub limited_field : Why → ℕ → List ℕ → Result ℕ Why
limited_field many most t = at_most many most (number_field t)

-- `v`: a signed value, which the command takes from the line (`value_at`).
abbrev pub good : Option ℤ → Result ℕ Why
good (Some z) = Ok 0
good None = Err NoNumber

unfoldable pub value_field : List ℕ → Result ℕ Why
value_field t = good (value_of t)

-- `h`: hexadecimal digits, an even number of them, as the number of their bytes.
unfoldable pub hex_field : List ℕ → Result ℕ Why
hex_field t = cond (eqb (length t % 2) 1) (Err OddDigits) (cond (all_digits t) (Ok (length t / 2)) (Err NoNumber))

-- A field by the letter of its kind. It must be there.
unfoldable pub operand_of : ℕ → ℕ → List ℕ → Result ℕ Why
operand_of most kind t =
    cond (is_empty t) (Err WrongFields)
    (cond (eqb kind (code "k")) (limited_field TooManyWords most t)
    (cond (eqb kind (code "r")) (limited_field TooMuchRoom most_room t)
    (cond (eqb kind (code "v")) (value_field t)
    (cond (eqb kind (code "h")) (hex_field t)
    (number_field t)))))

-- What the fields of a line are: each one's number, or the first thing wrong.
abbrev pub Reading : Type 0
Reading = Result (ℕ → ℕ) Why

-- The number v for field i.
abbrev pub with_number : ℕ → ℕ → (ℕ → ℕ) → ℕ → ℕ
with_number i v n j = cond (eqb j i) v (n j)

unfoldable pub reading : Result ℕ Why → (ℕ → Reading) → Reading
reading (Ok v) f = f v
reading (Err why) f = Err why

-- The fields of s by their kinds, from left to right, the first of them field i. There must be no further one.
unfoldable pub read_from : ℕ → List ℕ → ℕ → (ℕ → ℕ) → List ℕ → Reading
read_from most s i n [] = cond (is_empty (field_of s)) (Ok n) (Err WrongFields)
read_from most s i n (kind ∷ kinds) =
    reading (operand_of most kind (field_of s)) (λ v. read_from most (after s) (i + 1) (with_number i v n) kinds)

-- A row: a command's word, the kinds of its fields, and what it says of their numbers.
pub record Row : Type 0 where
  pub word : List ℕ
  pub kinds : List ℕ
  pub says : (ℕ → ℕ) → Result Command Why

abbrev pub row : String → String → ((ℕ → ℕ) → Result Command Why) → Row
row word kinds says = record { word = codes word; kinds = codes kinds; says = says }

-- The first where a test passes, else the second.
unfoldable pub choose : Bool → Result Command Why → Result Command Why → Result Command Why
choose test a b = cond test a b

-- `put` and `get` reach the bytes of the memory.
unfoldable pub within : ℕ → ℕ → Bool
within address count = leb (address + count) memory_bytes

unfoldable pub inside : ℕ → ℕ → Command → Result Command Why
inside address count command = choose (within address count) (Ok command) (Err OutsideMemory)

-- The value of field i; 0 where it is none.
abbrev pub signed_of : Option ℤ → ℤ
signed_of (Some z) = z
signed_of None = pos 0

unfoldable pub value_at : List ℕ → ℕ → ℤ
value_at s i = signed_of (value_of (field_at s i))

abbrev pub ranges : Call → (ℕ → ℕ) → Result Command Why
ranges call n = Ok (Ranges call (n 0) (n 1) (n 2) (n 3))

-- The commands, in the order of docs/TEXT-FORM.md.
abbrev pub rows : List ℕ → List Row
rows s =
    row "copy" "knnn" (ranges Copy)
    ∷ row "move" "knnn" (ranges Move)
    ∷ row "fill" "knvn" (λ n. Ok (Fill (n 0) (n 1) (value_at s 3) (n 3)))
    ∷ row "compare" "knnn" (ranges Compare)
    ∷ row "bcmp" "knnn" (ranges Bcmp)
    ∷ row "strlen" "kn" (λ n. Ok (Strlen (n 0) (n 1)))
    ∷ row "copy-log" "knnnr" (λ n. Ok (CopyLog (n 0) (n 1) (n 2) (n 3) (n 4)))
    ∷ row "move-log" "knnnr" (λ n. Ok (MoveLog (n 0) (n 1) (n 2) (n 3) (n 4)))
    ∷ row "fill-log" "knvnr" (λ n. Ok (FillLog (n 0) (n 1) (value_at s 3) (n 3) (n 4)))
    ∷ row "put" "nh" (λ n. inside (n 0) (n 1) (Put (n 0) (n 1)))
    ∷ row "get" "nn" (λ n. inside (n 0) (n 1) (Get (n 0) (n 1)))
    ∷ row "clear" "" (λ n. Ok Clear)
    ∷ []

-- The row of the line's word, on the fields after it.
unfoldable pub made : ((ℕ → ℕ) → Result Command Why) → Reading → Result Command Why
made says (Ok n) = says n
made says (Err why) = Err why

abbrev pub read_by : ℕ → List ℕ → Row → Result Command Why
read_by most s r = made r.says (read_from most (after s) 0 (λ i. 0) r.kinds)

unfoldable pub look_up : ℕ → List ℕ → List Row → Result Command Why
look_up most s [] = Err UnknownWord
look_up most s (r ∷ rs) = choose (is_text r.word (field_of s)) (read_by most s r) (look_up most s rs)

-- A line of at most so many bytes; one with no field says nothing. `most` is how many words there are.
unfoldable pub command_of : ℕ → List ℕ → Result Command Why
command_of most s =
    choose (ltb most_line (length s)) (Err TooLong) (choose (is_empty (field_of s)) (Ok Nothing) (look_up most s (rows s)))
