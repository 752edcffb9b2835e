-- docs/TEXT-FORM.md, "Fields": the number that a text is.
-- Assumes nothing.
use Rattle.std.specs.Prelude.{ℕ, zero, suc, ◌+◌, ◌-◌, ◌*◌, ◌^◌, ◌<◌, ◌≤◌, cond, List, [], ◌∷◌, drop, ℤ, pos, negsuc, nat_le, nat_lt, Option, Some, None}
use Rattle.texts.specs.Codes.{codes}
use Rattle.texts.specs.Texts.{starts}
use Rattle.texts.specs.Digits.{digit_of}

-- A base of digits, each of which is a number that may be read.
pub record Base (base most : ℕ) : Type 0 where
  pub some : 0 < base
  pub few : base ≤ 16
  pub room : 15 ≤ most

-- Digits read from left to right, with `value` read already: no number where a byte is no digit of the base, or the number passes `most`.
unfoldable pub read_on : ℕ → ℕ → ℕ → List ℕ → Option ℕ
read_on base most value [] = Some value
read_on base most value (b ∷ s) =
    cond (nat_lt (digit_of b) base)
    (cond (nat_le (value * base + digit_of b) most) (read_on base most (value * base + digit_of b) s) None)
    None

-- The number that digits make; no digit makes none.
abbrev pub digits_in : ℕ → ℕ → List ℕ → Option ℕ
digits_in base most [] = None
digits_in base most (b ∷ s) = read_on base most 0 (b ∷ s)

-- A number is decimal digits, or `0x` and hexadecimal digits, from 0 to 2^64 - 1.
unfoldable pub number_of : List ℕ → Option ℕ
number_of s = cond (starts (codes "0x") s) (digits_in 16 (2 ^ 64 - 1) (drop 2 s)) (digits_in 10 (2 ^ 64 - 1) s)

-- The opposite of a number.
abbrev pub opposite : ℕ → ℤ
opposite zero = pos 0
opposite (suc n) = negsuc n

abbrev pub as_value : (ℕ → ℤ) → Option ℕ → Option ℤ
as_value f (Some n) = Some (f n)
as_value f None = None

-- A decimal number from -2^31 to 2^31 - 1: digits, with `-` before them where it is negative.
unfoldable pub value_of : List ℕ → Option ℤ
value_of s = cond (starts (codes "-") s) (as_value opposite (digits_in 10 (2 ^ 31) (drop 1 s))) (as_value pos (digits_in 10 (2 ^ 31 - 1) s))
