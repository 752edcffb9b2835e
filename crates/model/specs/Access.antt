-- Document 01, "The access lists": an access is a load or store of 1, 2, 4 or 8 bytes at an address.
-- Assumes nothing.
use Rattle.std.specs.Prelude.{ℕ}

-- The width, then the address.
pub data Access : Type 0 where
  load : ℕ → ℕ → Access
  store : ℕ → ℕ → Access
