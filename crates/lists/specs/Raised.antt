-- The scan for a string's end is handed the words from the one that holds the start, so its addresses count from there.
-- Assumes nothing.
use Rattle.std.specs.Prelude.{ℕ, ◌+◌}
use Rattle.model.specs.Access.{Access, load, store}

-- An access of a part of the memory, as one of the memory: the part begins at address b.
abbrev pub raised : ℕ → Access → Access
raised b (load w a) = load w (b + a)
raised b (store w a) = store w (b + a)
