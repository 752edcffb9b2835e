-- What a routine did, by a list of accesses: exactly these accesses, in this order, by the log and the record; and the bytes that performing
-- the list leaves. The contracts of routines that make accesses say so.
-- Assumes nothing.
use Rattle.std.specs.Prelude.{◌≡◌, List, [], ◌∷◌, ℕ, ◌+◌, ◌-◌, ◌<◌, ◌≤◌, Bool, true, false, length}
use Rattle.model.specs.declared.Log.{Log}
use Rattle.model.specs.declared.Work.{Work}
use Rattle.model.specs.Access.{Access, store}
use Rattle.model.specs.Lists.{front_partial, end_partial}
use Rattle.model.specs.Log.{Recorded}
use Rattle.model.specs.Memory.{byte, view, over, laid}
use Rattle.model.specs.Perform.{perform}

-- What is lent to a routine: the words, and the log that every access is written to.
pub record Lent : Type 0 where
  pub words : List ℕ
  pub log : Log

abbrev pub lent : List ℕ → Log → Lent
lent ws g = record { words = ws; log = g }

-- The accesses xs were made, and no other, in this order (`recorded`). From the words of z, performing xs leaves the words of z', where what
-- is held before is as `pre` says; what is held afterwards is as `post` says. What a store writes, `give` says.
pub record Carried (W : ℕ) (give : (ℕ → ℕ) → ℕ → ℕ) (pre : (ℕ → ℕ) → Type 0) (xs : List Access) (post : (ℕ → ℕ) → Type 0)
    (z z' : Lent) (work : Work) : Type 0 where
  pub size : length z'.words ≡ length z.words
  pub performed : (held : ℕ → ℕ) → pre held
      → (perform give xs (record { bytes = view W z.words; held = held })).bytes ≡ view W z'.words
  pub holding : (held : ℕ → ℕ) → pre held → post (perform give xs (record { bytes = view W z.words; held = held })).held
  pub recorded : Recorded xs z.log z'.log work

-- Whatever is held.
abbrev pub Anything : (ℕ → ℕ) → Type 0
Anything held = Unit {0}

-- The same, whatever was held before: what a routine promises that starts and ends with nothing to carry.
abbrev pub Ran : ℕ → ((ℕ → ℕ) → ℕ → ℕ) → List Access → Lent → Lent → Work → Type 0
Ran W give xs z z' work = Carried W give Anything xs Anything z z' work

-- Of the word at address b, the bytes from byte lo on and below byte hi are those of the number v.
abbrev pub Holds : ℕ → ℕ → ℕ → ℕ → (ℕ → ℕ) → Type 0
Holds b lo hi v f = (j : ℕ) → lo ≤ j → j < hi → f (b + j) ≡ byte v j

-- Misaligned words: v is the word at b, and the cursor stands at its byte o. Held are its bytes that are still to be stored, those from o
-- on going up, those below o going down.
abbrev pub Pending : Bool → ℕ → ℕ → ℕ → ℕ → (ℕ → ℕ) → Type 0
Pending true W o b v held = Holds b o W v held
Pending false W o b v held = Holds b 0 o v held

-- A part of the word at b: its end, from byte o on, or its front, the bytes below byte o. Misaligned words first load the end going up, and
-- the front going down; of the last word they load the other part.
abbrev pub part : Bool → ℕ → ℕ → ℕ → List Access
part true W b o = end_partial (b + o) (W - o)
part false W b o = front_partial b o

-- Two words that were loaded one after the other, in the order of their addresses.
abbrev pub ordered : Bool → ℕ → ℕ → List ℕ
ordered true prev cur = prev ∷ cur ∷ []
ordered false prev cur = cur ∷ prev ∷ []

-- One store, and no other access: the lowest `width` bytes of the number v stand at addr and on, and every other byte is as it was.
pub record Stored (W width addr v : ℕ) (z z' : Lent) (work : Work) : Type 0 where
  pub size : length z'.words ≡ length z.words
  pub bytes : view W z'.words ≡ over addr width (laid v addr) (view W z.words)
  pub recorded : Recorded (store width addr ∷ []) z.log z'.log work

-- A routine that only loads: the accesses xs were made, and no other, in this order, and its value is v.
pub record Found {A : Type 0} (v : A) (xs : List Access) (g g' : Log) (value : A) (work : Work) : Type 0 where
  pub found : value ≡ v
  pub recorded : Recorded xs g g' work

-- A part of the word at b was loaded, and nothing else: its bytes are those of the value.
pub record PartFound (end : Bool) (W o b : ℕ) (ws : List ℕ) (g g' : Log) (value : ℕ) (work : Work) : Type 0 where
  pub bytes : Pending end W o b value (view W ws)
  pub recorded : Recorded (part end W b o) g g' work
