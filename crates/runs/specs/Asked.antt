-- What the routines ask: that the bytes ahead of a cursor lie inside the lent memory. Nothing is asked of how two ranges overlap.
-- Assumes nothing.
use Rattle.std.specs.Prelude.{◌≡◌, Bool, ℕ, ◌+◌, ◌%◌, ◌<◌}
use Rattle.model.specs.Fit.{Range}
use Rattle.model.specs.Lists.{cursor, chunk}

-- The next n bytes at the cursor c: c is their cursor, and they lie inside k words.
pub record Ahead (up : Bool) (W k c n : ℕ) : Type 0 where
  pub here : cursor up (chunk up c n) n ≡ c
  pub range : Range W k (chunk up c n) n

-- The next n bytes at the cursors of destination and source.
pub record Both (up : Bool) (W k d s n : ℕ) : Type 0 where
  pub dest : Ahead up W k d n
  pub src : Ahead up W k s n

-- They are whole words, and the destination is aligned.
pub record Words (up : Bool) (W k d s n : ℕ) : Type 0 where
  pub both : Both up W k d s n
  pub whole : n % W ≡ 0
  pub aligned : d % W ≡ 0

-- They are whole words, and the source's cursor stands inside the word at b, at its byte o.
pub record Across (up : Bool) (W k d b o n : ℕ) : Type 0 where
  pub words : Words up W k d (b + o) n
  pub word : b % W ≡ 0
  pub some : 0 < o
  pub less : o < W

-- They are chunks of w bytes each, which divide the word, and both cursors stand at boundaries of a chunk.
pub record Chunks (up : Bool) (W w k d s n : ℕ) : Type 0 where
  pub both : Both up W k d s n
  pub divides : W % w ≡ 0
  pub dest : d % w ≡ 0
  pub src : s % w ≡ 0
