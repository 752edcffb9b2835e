-- What the partial loads ask, and where one stands between its chunks.
-- Assumes nothing.
use Rattle.std.specs.Prelude.{◌≡◌, List, ◌++◌, ℕ, ◌+◌, ◌*◌, ◌/◌, ◌%◌, ◌^◌, ◌<◌, ◌≤◌, length}
use Rattle.model.specs.Access.{Access, load}
use Rattle.model.specs.Fit.{Fit, Range}
use Rattle.model.specs.Lists.{made}
use Rattle.model.specs.Memory.{read_le, view}
use Rattle.model.specs.Log.{Recorded}
use Rattle.words8.specs.Word.{W}
use Rattle.model.specs.declared.Log.{Log}
use Rattle.words8.specs.declared.partial.Loading.{Loading}

-- m bytes, fewer than a word, from byte `first` of the word at addr on. They lie inside k words.
pub record PartOf (k addr first m : ℕ) : Type 0 where
  pub aligned : addr % W ≡ 0
  pub less : m < W
  pub range : Range W k (addr + first) m

-- After the accesses xs, of a byte or more each, which led from the log g to g': the bytes at `offset` addresses from src on stand in `out`,
-- from its byte dst on.
pub record SoFar (f : ℕ → ℕ) (src dst : ℕ) (xs : List Access) (g g' : Log) (p : Loading) : Type 0 where
  pub few : length xs ≤ p.offset
  pub out : p.out ≡ read_le f src p.offset * 256 ^ dst
  pub recorded : Recorded xs g g' p.work

-- A chunk of w bytes, which divide the word, is loaded where m has that binary digit. There its access fits, and its bytes have
-- room in `out`.
pub record ChunkAsked (ws : List ℕ) (w src dst m : ℕ) (g : Log) (p : Loading) : Type 0 where
  pub xs : List Access
  pub start : Log
  pub so : SoFar (view W ws) src dst xs start g p
  pub divides : W % w ≡ 0
  pub less : m < W
  pub fits : m / w % 2 ≡ 1 → Fit W (length ws) w (src + p.offset)
  pub room : m / w % 2 ≡ 1 → dst + p.offset + w ≤ W

-- What a chunk leaves: where it was loaded, the offset has advanced past it, and what held after the accesses xs holds after xs and its
-- load. Where it was not, all is as before.
pub record ChunkDone (f : ℕ → ℕ) (w src dst m : ℕ) (g g' : Log) (p r : Loading) : Type 0 where
  pub offset : r.offset ≡ p.offset + w * (m / w % 2)
  pub so : (xs : List Access) {start : Log} → SoFar f src dst xs start g p
      → SoFar f src dst (xs ++ made (m / w % 2) (load w (src + p.offset))) start g' r
