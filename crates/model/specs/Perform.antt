-- Document 01: performing a list.
-- Assumes nothing.
use Rattle.std.specs.Prelude.{ℕ, ◌+◌, ◌-◌, List, [], ◌∷◌}
use Rattle.model.specs.Access.{Access, load, store}
use Rattle.model.specs.Memory.{over}

-- The bytes of the memory, and those that were loaded, by the address that they were loaded from.
pub record State : Type 0 where
  pub bytes : ℕ → ℕ
  pub held : ℕ → ℕ

-- A load takes the bytes that stand there at that moment; a store at x and on writes what `give` says for x, from the bytes held.
abbrev pub step : ((ℕ → ℕ) → ℕ → ℕ) → Access → State → State
step give (load w a) z = record { bytes = z.bytes; held = over a w z.bytes z.held }
step give (store w a) z = record { bytes = over a w (give z.held) z.bytes; held = z.held }

unfoldable pub perform : ((ℕ → ℕ) → ℕ → ℕ) → List Access → State → State
perform give [] z = z
perform give (x ∷ xs) z = perform give xs (step give x z)

-- A store into dest + i writes the byte that was loaded for src + i: for x = dest + i, that is (x + src) - dest.
abbrev pub moving : ℕ → ℕ → (ℕ → ℕ) → ℕ → ℕ
moving dest src held x = held ((x + src) - dest)

-- Or the fill byte.
abbrev pub filling : ℕ → (ℕ → ℕ) → ℕ → ℕ
filling b held x = b
