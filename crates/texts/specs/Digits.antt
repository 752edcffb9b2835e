-- docs/TEXT-FORM.md, "Fields": digits.
-- Assumes nothing.
use Rattle.std.specs.Prelude.{ℕ, ◌+◌, ◌-◌, Bool, true, false, cond, List, [], ◌∷◌, nat_le, nat_lt}
use Prim.Native.Char.{code}

-- A byte from one letter to another.
abbrev pub from_to : ℕ → ℕ → ℕ → Bool
from_to a z b = cond (nat_le a b) (nat_le b z) false

-- The value of a digit, `0` to `9`, `A` to `F` or `a` to `f`; 16 for every other byte.
unfoldable pub digit_of : ℕ → ℕ
digit_of b =
    cond (from_to (code "0") (code "9") b) (b - code "0")
    (cond (from_to (code "A") (code "F") b) (b - code "A" + 10)
    (cond (from_to (code "a") (code "f") b) (b - code "a" + 10) 16))

-- Every byte is a digit.
unfoldable pub all_digits : List ℕ → Bool
all_digits [] = true
all_digits (b ∷ t) = cond (nat_lt (digit_of b) 16) (all_digits t) false
