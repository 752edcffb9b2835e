-- What it is to write a text into a buffer.
-- Assumes nothing.
use Rattle.std.specs.Prelude.{◌≡◌, List, ◌++◌, ℕ, ◌+◌, ◌≤◌, length, take, drop}
use Rattle.show.specs.declared.Out.{Out}

-- There is room for so many bytes behind what is written.
abbrev pub Room : ℕ → Out → Type 0
Room most out = out.end + most ≤ length out.bytes.now

-- The text stands in the buffer from the old end on, up to the new one. Every other byte is as it was, and it is the same buffer.
pub record Wrote (text : List ℕ) (old new : Out) : Type 0 where
  pub ends : new.end ≡ old.end + length text
  pub inside : new.end ≤ length old.bytes.now
  pub bytes : new.bytes.now ≡ take old.end old.bytes.now ++ (text ++ drop new.end old.bytes.now)
  pub same : new.bytes.ghost_name ≡ old.bytes.ghost_name
