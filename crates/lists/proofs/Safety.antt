-- When performing a list of a copy spoils nothing. A file of its own, so that what rests on it is checked where it is not stated.
-- Assumes nothing.
use mathlib.Core.Bool.{Bool, true, false}
use Prim.Native.Nat.{ℕ, ◌+◌, ◌≤◌}

-- Where no store lands on a source byte that is still to be loaded: going up, the destination begins at or below the source, or past
-- its end; going down, the mirror of it.
pub data Safe (d s n : ℕ) : Bool → Type 0 where
  behind : d ≤ s → Safe d s n true
  clear_above : s + n ≤ d → Safe d s n true
  ahead : s ≤ d → Safe d s n false
  clear_below : d + n ≤ s → Safe d s n false
