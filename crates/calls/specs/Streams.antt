-- What each turn of the test program does, from a session s to a session r. The memory, the log, the input and the output have the sizes
-- that their types say. That the unread bytes lie inside the input, and what waits inside the output, is a fact of every `Stream`.
-- Assumes nothing.
use Rattle.std.specs.Prelude.{◌≡◌, true, false, List, [], ◌++◌, ◌⊎◌, ℕ, ◌+◌, ◌-◌, ◌≤◌, ◌<◌, length, take, drop, replicate, ◌==◌, Result, IsOk, IfOk, is_err}
use Rattle.std.specs.List.{position_or_len}
use Rattle.commands.specs.Commands.{command_of}
use Rattle.lines.specs.Lines.{answer_of, LeftBy}
use Rattle.commands.specs.Sizes.{most_line}
use Rattle.lines.specs.Sizes.{memory_words, longest_answer}
use Rattle.calls.specs.declared.Failure.{Failure}
use Rattle.calls.specs.declared.Session.{Session}

-- The memory at the start: every word is zero.
abbrev pub zeros : List ℕ
zeros = replicate memory_words 0

-- The bytes from place a up to place e, as the language reads `&s[a..e]`.
abbrev pub between : ℕ → ℕ → List ℕ → List ℕ
between a e s = take (e - a) (drop a s)

-- The unread bytes of the input.
abbrev pub unread_bytes : Session → List ℕ
unread_bytes s = between s.stream.start s.stream.end s.input

-- What waits to be printed: what waited and then the text, or the text alone, where what waited was printed first.
abbrev pub Waits : List ℕ → ℕ → List ℕ → ℕ → List ℕ → Type 0
Waits text written out written' out' = (take written' out' ≡ take written out ++ text) ⊎ (take written' out' ≡ text)

-- What a step of the program hands back: nothing, or what failed.
abbrev pub Done : Type 0
Done = Result (Unit {0}) Failure

-- Where the next answer goes, with room for any: behind what waits, or to the start where that was printed. Nothing fails where nothing had
-- to be printed.
pub record Roomy (written : ℕ) (r : Result ℕ Failure) : Type 0 where
  pub room : IfOk r (λ at. at ≤ longest_answer)
  pub at : IfOk r (λ at. (at ≡ written) ⊎ (at ≡ 0))
  pub fine : written ≤ longest_answer → IsOk r

-- A line was answered: the words are as it leaves them, the answer waits, the line is counted, and the next unread byte stands at `next`.
-- The input stays, more of it may come as before, and nothing failed where nothing had to be printed first. Whether this step
-- failed, the stream keeps.
pub record Took (line : List ℕ) (next : ℕ) (s r : Session) (done : Done) : Type 0 where
  pub start : r.stream.start ≡ next
  pub end : r.stream.end ≡ s.stream.end
  pub number : r.stream.number ≡ s.stream.number + 1
  pub more : r.stream.more ≡ s.stream.more
  pub fine : s.stream.written ≤ longest_answer → IsOk done
  pub failed : r.stream.failed ≡ is_err done
  pub input : r.input ≡ s.input
  pub memory : LeftBy s.mem line (command_of memory_words line) r.mem
  pub answer : Waits (answer_of s.mem (s.stream.number + 1) line (command_of memory_words line)) s.stream.written s.output r.stream.written r.output

-- More was read: the bytes that were kept stand in front of what came. Where the input has ended, nothing came.
pub record Joined (kept : List ℕ) (r : Session) : Type 0 where
  pub start : r.stream.start ≡ 0
  pub end : length kept ≤ r.stream.end
  pub bytes : take (length kept) r.input ≡ kept
  pub closed : r.stream.more ≡ false → r.stream.end ≡ length kept

-- No line was answered.
pub record Unanswered (s r : Session) : Type 0 where
  pub number : r.stream.number ≡ s.stream.number
  pub skipping : r.stream.skipping ≡ s.stream.skipping
  pub memory : r.mem ≡ s.mem

-- No newline is among the unread bytes. Too many of them, and the line is answered by what there is of it, once; else nothing is, and what
-- there is of it is kept.
pub record Within (s r : Session) (done : Done) : Type 0 where
  pub few : r.stream.number ≤ s.stream.number + 1
  pub long : s.stream.skipping ≡ false → most_line < s.stream.end - s.stream.start
      → (Took (unread_bytes s) s.stream.end s r done) × (r.stream.skipping ≡ true) × (r.input ≡ s.input)
  pub short : s.stream.skipping ≡ false → s.stream.end - s.stream.start ≤ most_line → (Unanswered s r) × (Joined (unread_bytes s) r)
  pub skipped : s.stream.skipping ≡ true → (Unanswered s r) × (Joined [] r)

-- Where a number first stands in a list; how long the list is where it stands nowhere.
abbrev pub index_of : ℕ → List ℕ → ℕ
index_of b xs = position_or_len (λ x. x == b) xs

-- Where the first newline stands among the unread bytes; their end where there is none.
abbrev pub newline_at : Session → ℕ
newline_at s = s.stream.start + index_of 10 (unread_bytes s)

-- The rest of a line that was answered was passed over.
pub record Passed (next : ℕ) (s r : Session) (done : Done) : Type 0 where
  pub start : r.stream.start ≡ next
  pub end : r.stream.end ≡ s.stream.end
  pub number : r.stream.number ≡ s.stream.number
  pub skipping : r.stream.skipping ≡ false
  pub more : r.stream.more ≡ s.stream.more
  pub fine : IsOk done
  pub failed : r.stream.failed ≡ s.stream.failed
  pub memory : r.mem ≡ s.mem

-- One turn: the line up to the first newline is answered, unless it is the rest of one that was. Where nothing had failed before,
-- the stream keeps whether this turn failed.
pub record OneTurn (s r : Session) (done : Done) : Type 0 where
  pub failed : s.stream.failed ≡ false → r.stream.failed ≡ is_err done
  pub few : r.stream.number ≤ s.stream.number + 1
  pub line : newline_at s < s.stream.end → s.stream.skipping ≡ false
      → (Took (between s.stream.start (newline_at s) s.input) (newline_at s + 1) s r done) × (r.stream.skipping ≡ false)
  pub passed : newline_at s < s.stream.end → s.stream.skipping ≡ true → Passed (newline_at s + 1) s r done
  pub same : newline_at s < s.stream.end → r.input ≡ s.input
  pub within : newline_at s ≡ s.stream.end → Within s r done

-- The input has ended. The unread bytes are a last line without a newline, and it is answered like any other. Where there are none, or they
-- are the rest of a line that was answered, or something failed, nothing changes.
pub record Ended (s r : Session) (done : Done) : Type 0 where
  pub line : s.stream.failed ≡ false → s.stream.skipping ≡ false → s.stream.start < s.stream.end → Took (unread_bytes s) s.stream.end s r done
  pub none : (s.stream.failed ≡ true) ⊎ ((s.stream.skipping ≡ true) ⊎ (s.stream.start ≡ s.stream.end)) → (r ≡ s) × IsOk done
