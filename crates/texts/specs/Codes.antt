-- Texts are lists of ASCII codes.
-- Assumes nothing.
use Rattle.std.specs.Prelude.{ℕ, List, [] as none, ◌∷◌ as ◌then◌}
use Prim.Native.Char.{code}
use Prim.Native.String.{String, [], ◌∷◌}

-- The codes of a quoted text.
abbrev pub codes : String → List ℕ
codes [] = none
codes (c ∷ text) = code c then codes text
