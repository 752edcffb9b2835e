-- What is known of a cursor, brought to the form in which a law wants it: how a number is written says nothing, so each of these asks for an
-- equation between two numbers, or for a bound.
-- Assumes nothing.
use mathlib.Core.Path.{◌≡◌, refl}
use mathlib.Core.Bool.{Bool, true, false}
use mathlib.Core.List.{List}
use Prim.Native.Nat.{ℕ, ◌+◌, ◌^◌, ◌<◌, ◌≤◌}
use native.Mathlib.Omega.{arith}
use Rattle.model.specs.declared.Log.{Log}
use Rattle.model.specs.declared.Work.{Work}
use Rattle.model.specs.Lists.{cursor, chunk, past}
use Rattle.words8.specs.Word.{W}
use Rattle.runs.specs.Asked.{Ahead}
use Rattle.runs.specs.Ran.{PartFound}

-- A cursor that has advanced by m bytes.
pub past_by : {r m m' : ℕ} (up : Bool) (c : ℕ) → r ≡ past up c m → m ≡ m' → r ≡ past up c m'
past_by up c e q = rw q at e

-- A part that was loaded of a word, from its byte o on or below it.
pub part_of : {end : Bool} {W o o' b v : ℕ} {ws : List ℕ} {g g' : Log} {a : Work} → PartFound end W o b ws g g' v a → o ≡ o'
    → PartFound end W o' b ws g g' v a
part_of r q = rw q at r

-- What `past` asks where m of the bytes ahead are passed; what `chunk` asks where w more are ahead then.
pub past_room : {k c n m : ℕ} (up : Bool) → Ahead up W k c n → m ≤ n → (cursor up (chunk up c m) m ≡ c) × (c + m < 2 ^ 64)
past_room true h l = (refl, omega (arith, h.range.few, h.range.inside))
past_room false h l = (omega (arith, h.here), omega (arith, h.here, h.range.few, h.range.inside))

pub chunk_room : {k c c' n : ℕ} (up : Bool) (m w : ℕ) → Ahead up W k c n → c' ≡ past up c m → m + w ≤ n
    → cursor up (chunk up c' w) w ≡ c'
chunk_room true m w h e l = refl
chunk_room false m w h e l = omega (arith, h.here)
