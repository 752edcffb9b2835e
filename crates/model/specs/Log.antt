-- Document 02, "Access log": the number that stands for an access, and the log that accesses leave.
-- Assumes nothing.
use Rattle.std.specs.Prelude.{◌≡◌, ℕ, ◌+◌, ◌*◌, cond, List, [], ◌∷◌, ◌++◌, map, eqb, ltb, length, set, drop}
use Rattle.model.specs.declared.Log.{Log}
use Rattle.model.specs.declared.Work.{Work}
use Rattle.model.specs.Access.{Access, load, store}
use Rattle.model.specs.Tally.{tally}

-- "Width code (0, 1, 2, 3 for 1, 2, 4, 8 bytes)".
abbrev pub width_code : ℕ → ℕ
width_code w = cond (eqb w 1) 0 (cond (eqb w 2) 1 (cond (eqb w 4) 2 3))

-- "Address + 65,536 x width code [..] + 262,144 for a store."
abbrev pub per_code : ℕ
per_code = 65536

abbrev pub for_store : ℕ
for_store = 262144

abbrev pub entry_of : Access → ℕ
entry_of (load w a) = a + per_code * width_code w
entry_of (store w a) = a + per_code * width_code w + for_store

-- What is written into a log by an accepted call: the numbers of the list from place 0 on. "Places past the list stay."
unfoldable pub log_after : List Access → List ℕ → List ℕ
log_after xs es = map entry_of xs ++ drop (length xs) es

-- A log while accesses are made is the code's `Log`: `entries.now` are its numbers, `place` is that of the next one. Here a log with other
-- numbers and another place, in the same lent slice.
abbrev pub log_of : Log → List ℕ → ℕ → Log
log_of g es p = record { entries = record g.entries { now = es }; place = p }

-- A number is written at the place, and the place advances. At the end of the log nothing is written, and the place stays.
unfoldable pub entered : ℕ → Log → Log
entered number g =
    cond (ltb g.place (length g.entries.now)) (log_of g (set g.entries.now g.place number) (g.place + 1)) g

-- Each access writes its own, in their order.
unfoldable pub logged : List Access → Log → Log
logged [] g = g
logged (x ∷ xs) g = logged xs (entered (entry_of x) g)

-- Exactly the accesses xs were made, in this order: from the log g they left g', and their record is that of xs. A log that ends before
-- them keeps the first of them; a routine says this of every log that may be lent to it, and so of one with room for all.
pub record Recorded (xs : List Access) (g g' : Log) (work : Work) : Type 0 where
  pub noted : g' ≡ logged xs g
  pub counted : work ≡ tally xs
