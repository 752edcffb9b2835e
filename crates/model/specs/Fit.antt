-- Document 01: where an access may be made. "The list of an accepted call [..] aligns each access to its width", inside the lent
-- memory.
-- Assumes nothing.
use Rattle.std.specs.Prelude.{◌≡◌, ℕ, ◌+◌, ◌*◌, ◌%◌, ◌≤◌, List, [], ◌∷◌}
use Rattle.model.specs.Access.{Access, load, store}
use Rattle.model.specs.Memory.{most_words}

-- The width divides the word (1, 2, 4 or 8 bytes, and at most the word), and the address is a multiple of the width.
pub record Aligned (W width addr : ℕ) : Type 0 where
  pub divides : W % width ≡ 0
  pub multiple : addr % width ≡ 0

-- The n bytes from an address lie inside k words, which are no more than may be lent.
pub record Range (W k addr n : ℕ) : Type 0 where
  pub few : k ≤ most_words W
  pub inside : addr + n ≤ W * k

-- Aligned, and inside: all that a load or a store asks.
pub record Fit (W k width addr : ℕ) : Type 0 where
  pub aligned : Aligned W width addr
  pub range : Range W k addr width

-- The same of an access, a load or a store.
abbrev pub aligns : ℕ → Access → Type 0
aligns W (load w a) = Aligned W w a
aligns W (store w a) = Aligned W w a

abbrev pub fits : ℕ → ℕ → Access → Type 0
fits W k (load w a) = Fit W k w a
fits W k (store w a) = Fit W k w a

-- Something holds of every access of a list.
pub data Every (P : Access → Type 0) : List Access → Type 0 where
  none : Every P []
  next : {x : Access} {xs : List Access} → P x → Every P xs → Every P (x ∷ xs)
