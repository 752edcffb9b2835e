-- Demand 3: which accesses of a list touch a byte, counted by kind.
-- Assumes nothing.
use Rattle.std.specs.Prelude.{ℕ}
use Rattle.model.specs.Access.{Access, load, store}
use Rattle.model.specs.Memory.{over}

-- One at each of the n addresses from a, zero elsewhere.
unfoldable pub within : ℕ → ℕ → ℕ → ℕ
within a n x = over a n (λ y. 1) (λ y. 0) x

-- One for each load that covers the address x; one for each store.
abbrev pub loads_at : ℕ → Access → ℕ
loads_at x (load w a) = within a w x
loads_at x (store w a) = 0

abbrev pub stores_at : ℕ → Access → ℕ
stores_at x (load w a) = 0
stores_at x (store w a) = within a w x
