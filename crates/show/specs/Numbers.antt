-- Numbers as text: ASCII codes, the digits of the highest place first.
-- Assumes nothing.
use Rattle.std.specs.Prelude.{cond, List, [], ◌∷◌, ◌++◌, ℕ, zero, suc, ◌/◌, ◌%◌, ltb, ℤ, pos, negsuc}
use Rattle.io.specs.Digits.{hex_digit_ascii}
use Rattle.texts.specs.Codes.{codes}
use Rattle.show.specs.Sizes.{most_number}

-- A number of at most k decimal digits, with no 0 in front.
unfoldable pub decimal_in : ℕ → ℕ → List ℕ
decimal_in zero n = []
decimal_in (suc k) n = cond (ltb n 10) (hex_digit_ascii n ∷ []) (decimal_in k (n / 10) ++ (hex_digit_ascii (n % 10) ∷ []))

-- A number of 64 bits.
abbrev pub decimal : ℕ → List ℕ
decimal n = decimal_in most_number n

-- `-` before a number below 0. (`negsuc n` is -1 - n.)
abbrev pub signed : ℤ → List ℕ
signed (pos n) = decimal n
signed (negsuc n) = codes "-" ++ decimal (suc n)

-- A byte as two hexadecimal digits, in lower case.
abbrev pub hex_byte : ℕ → List ℕ
hex_byte b = hex_digit_ascii (b / 16) ∷ hex_digit_ascii (b % 16) ∷ []
