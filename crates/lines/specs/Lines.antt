-- What a line does to the memory, and what it is answered: docs/TEXT-FORM.md, "Commands and answers" and "Bad lines".
-- Assumes nothing.
use Rattle.std.specs.Prelude.{◌≡◌, cond, List, [], ◌++◌, map, ℕ, eqb, ℤ, length, take, drop, replicate, Result, Ok, Err}
use Rattle.model.specs.Access.{Access}
use Rattle.model.specs.Answers.{Said, an_address, a_refusal, Reply, accepted, copy_answer, move_answer, fill_answer, compare_answer, bcmp_answer, string_answer, copy_words, move_words, fill_words}
use Rattle.model.specs.Lists.{copy_list, move_list, fill_list}
use Rattle.model.specs.Log.{entry_of}
use Rattle.model.specs.Meaning.{memcpy, memmove, memset}
use Rattle.model.specs.Memory.{view, packed}
use Rattle.model.specs.Refusals.{Line, checked, copy_table, ranges_table, fill_table, log_table}
use Rattle.show.specs.declared.Out.{Out}
use Rattle.show.specs.AnswerText.{reply_text, answer_text}
use Rattle.show.specs.LoggedText.{list_text}
use Rattle.show.specs.Numbers.{decimal}
use Rattle.show.specs.Written.{Wrote}
use Rattle.texts.specs.Codes.{codes}
use Rattle.texts.specs.Texts.{text_at}
use Rattle.words8.specs.Word.{W}
use Rattle.commands.specs.Fields.{field_at}
use Rattle.commands.specs.declared.Call.{Call}
use Rattle.commands.specs.declared.Call.TheVariants.{Copy, Move, Compare, Bcmp}
use Rattle.commands.specs.declared.Command.{Command}
use Rattle.commands.specs.declared.Command.TheVariants.{Nothing, Ranges, Fill, Strlen, CopyLog, MoveLog, FillLog, Put as PutCommand, Get, Clear}
use Rattle.commands.specs.declared.Why.{Why}
use Rattle.commands.specs.declared.Why.TheVariants.{TooLong, UnknownWord, WrongFields, NoNumber, TooManyWords, TooMuchRoom, OddDigits, OutsideMemory}
use Rattle.lines.specs.Bytes.{hex_text, Put}

-- A call is made on the first k words; what it leaves of them, with the others as they were.
abbrev pub on_first : ℕ → (List ℕ → List ℕ) → List ℕ → List ℕ
on_first k f ws = f (take k ws) ++ drop k ws

-- What the calls answer, and leave, where k words are lent.
abbrev pub ranges_answer : Call → List ℕ → ℕ → ℕ → ℕ → ℕ → Reply
ranges_answer Copy ws k dest src n = copy_answer W k dest src n
ranges_answer Move ws k dest src n = move_answer W k dest src n
ranges_answer Compare ws k s1 s2 n = compare_answer W (take k ws) s1 s2 n
ranges_answer Bcmp ws k s1 s2 n = bcmp_answer W (take k ws) s1 s2 n

abbrev pub ranges_words : Call → List ℕ → ℕ → ℕ → ℕ → ℕ → List ℕ
ranges_words Copy ws k dest src n = on_first k (λ lent. copy_words W lent dest src n) ws
ranges_words Move ws k dest src n = on_first k (λ lent. move_words W lent dest src n) ws
ranges_words Compare ws k s1 s2 n = ws
ranges_words Bcmp ws k s1 s2 n = ws

-- `.. log E ..`: what the call without a log says, and the number of each access that was made.
abbrev pub log_line : Said → List Access → List ℕ
log_line said xs = reply_text (accepted said xs) ++ (codes " log" ++ (list_text (map entry_of xs) ++ codes "\n"))

-- A logged call, by the lines of its call, its destination and its list, with a log of `room` numbers. A refusal makes no access, and so
-- shows none.
unfoldable pub log_text : List Line → ℕ → List Access → ℕ → List ℕ
log_text lines dest xs room = checked (log_table lines xs room) (λ r. log_line (a_refusal r) []) (log_line (an_address dest) xs)

unfoldable pub copy_log_text : ℕ → ℕ → ℕ → ℕ → ℕ → List ℕ
copy_log_text k dest src n room = log_text (copy_table W k dest src n) dest (copy_list W dest src n) room

unfoldable pub move_log_text : ℕ → ℕ → ℕ → ℕ → ℕ → List ℕ
move_log_text k dest src n room = log_text (ranges_table W k dest src n) dest (move_list W dest src n) room

unfoldable pub fill_log_text : ℕ → ℕ → ℕ → ℕ → List ℕ
fill_log_text k dest n room = log_text (fill_table W k dest n) dest (fill_list W dest n) room

-- What it leaves of the words that it is lent: a refusal leaves them as found.
unfoldable pub copy_log_words : ℕ → ℕ → ℕ → ℕ → List ℕ → List ℕ
copy_log_words dest src n room ws =
    checked (log_table (copy_table W (length ws) dest src n) (copy_list W dest src n) room) (λ r. ws)
    (packed W (length ws) (memcpy dest src n (view W ws)))

unfoldable pub move_log_words : ℕ → ℕ → ℕ → ℕ → List ℕ → List ℕ
move_log_words dest src n room ws =
    checked (log_table (ranges_table W (length ws) dest src n) (move_list W dest src n) room) (λ r. ws)
    (packed W (length ws) (memmove dest src n (view W ws)))

unfoldable pub fill_log_words : ℕ → ℤ → ℕ → ℕ → List ℕ → List ℕ
fill_log_words dest c n room ws =
    checked (log_table (fill_table W (length ws) dest n) (fill_list W dest n) room) (λ r. ws)
    (packed W (length ws) (memset dest c n (view W ws)))

-- `put COUNT`
unfoldable pub put_text : ℕ → List ℕ
put_text count = codes "put " ++ (decimal count ++ codes "\n")

-- `bytes HEX`, and `bytes` alone where there are none
unfoldable pub get_text : (ℕ → ℕ) → ℕ → ℕ → List ℕ
get_text f address count = codes "bytes" ++ (cond (eqb count 0) [] (codes " " ++ hex_text f address count) ++ codes "\n")

abbrev pub clear_text : List ℕ
clear_text = codes "clear\n"

-- The reasons, in the order of docs/TEXT-FORM.md, and the number of each.
abbrev pub reasons : List ℕ
reasons =
    codes "a line above 16,383 bytes;unknown word;wrong number of fields;no number or one too large;k above 8192;"
    ++ codes "a log above 40960 numbers;an odd number of hex digits;a byte outside the memory;"

abbrev pub reason_number : Why → ℕ
reason_number TooLong = 0
reason_number UnknownWord = 1
reason_number WrongFields = 2
reason_number NoNumber = 3
reason_number TooManyWords = 4
reason_number TooMuchRoom = 5
reason_number OddDigits = 6
reason_number OutsideMemory = 7

unfoldable pub why_text : Why → List ℕ
why_text why = text_at reasons (reason_number why)

-- `error LINE WHY`
unfoldable pub error_text : ℕ → Why → List ℕ
error_text number why = codes "error " ++ (decimal number ++ (codes " " ++ (why_text why ++ codes "\n")))

-- The answer to line `number`, by what the line says. Only that of a bad line shows its number.
unfoldable pub answer_of : List ℕ → ℕ → List ℕ → Result Command Why → List ℕ
answer_of ws number line (Ok Nothing) = []
answer_of ws number line (Ok (Ranges call k first second n)) = answer_text (ranges_answer call ws k first second n)
answer_of ws number line (Ok (Fill k dest c n)) = answer_text (fill_answer W k dest n)
answer_of ws number line (Ok (Strlen k start)) = answer_text (string_answer W (take k ws) start)
answer_of ws number line (Ok (CopyLog k dest src n room)) = copy_log_text k dest src n room
answer_of ws number line (Ok (MoveLog k dest src n room)) = move_log_text k dest src n room
answer_of ws number line (Ok (FillLog k dest c n room)) = fill_log_text k dest n room
answer_of ws number line (Ok (PutCommand address count)) = put_text count
answer_of ws number line (Ok (Get address count)) = get_text (view W ws) address count
answer_of ws number line (Ok Clear) = clear_text
answer_of ws number line (Err why) = error_text number why

-- The words afterwards. A bad line changes nothing.
unfoldable pub LeftBy : List ℕ → List ℕ → Result Command Why → List ℕ → Type 0
LeftBy ws line (Ok Nothing) ws' = ws' ≡ ws
LeftBy ws line (Ok (Ranges call k first second n)) ws' = ws' ≡ ranges_words call ws k first second n
LeftBy ws line (Ok (Fill k dest c n)) ws' = ws' ≡ on_first k (λ lent. fill_words W lent dest c n) ws
LeftBy ws line (Ok (Strlen k start)) ws' = ws' ≡ ws
LeftBy ws line (Ok (CopyLog k dest src n room)) ws' = ws' ≡ on_first k (copy_log_words dest src n room) ws
LeftBy ws line (Ok (MoveLog k dest src n room)) ws' = ws' ≡ on_first k (move_log_words dest src n room) ws
LeftBy ws line (Ok (FillLog k dest c n room)) ws' = ws' ≡ on_first k (fill_log_words dest c n room) ws
LeftBy ws line (Ok (PutCommand address count)) ws' = Put W (field_at line 2) address count ws ws'
LeftBy ws line (Ok (Get address count)) ws' = ws' ≡ ws
LeftBy ws line (Ok Clear) ws' = ws' ≡ replicate (length ws) 0
LeftBy ws line (Err why) ws' = ws' ≡ ws

-- Line `number` is answered: the words are as the line leaves them, and the answer stands in the buffer, behind what was there.
pub record Answered (ws : List ℕ) (number : ℕ) (line : List ℕ) (said : Result Command Why) (ws' : List ℕ) (old new : Out) : Type 0 where
  pub memory : LeftBy ws line said ws'
  pub text : Wrote (answer_of ws number line said) old new
