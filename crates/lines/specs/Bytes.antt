-- `put` and `get`: bytes of the memory as text.
-- Assumes nothing.
use Rattle.std.specs.Prelude.{◌≡◌, List, [], ◌++◌, ℕ, zero, suc, ◌+◌, ◌*◌, ◌-◌, ◌/◌, ◌<◌, ◌≤◌, length, get_or}
use Rattle.model.specs.Memory.{byte, view, over, laid}
use Rattle.show.specs.Numbers.{hex_byte}
use Rattle.texts.specs.Digits.{digit_of}

-- The count bytes from address a, two digits each.
unfoldable pub hex_text : (ℕ → ℕ) → ℕ → ℕ → List ℕ
hex_text f a zero = []
hex_text f a (suc n) = hex_text f a n ++ hex_byte (f (a + n))

-- The number that two digits make.
abbrev pub hex_number : ℕ → ℕ → ℕ
hex_number high low = 16 * digit_of high + digit_of low

-- Byte i of a text of digits: a byte, since digits make no more.
abbrev pub hex_at : List ℕ → ℕ → ℕ
hex_at hex i = byte (hex_number (get_or hex (2 * i) 0) (get_or hex (2 * i + 1) 0)) 0

-- The lowest `width` bytes of a number stand from an address on, and every other byte is as it was.
pub record Laid (W width address v : ℕ) (ws ws' : List ℕ) : Type 0 where
  pub size : length ws' ≡ length ws
  pub bytes : view W ws' ≡ over address width (laid v address) (view W ws)

-- The first n bytes of the text stand in the memory from an address on, and every other byte is as it was.
pub record Put (W : ℕ) (hex : List ℕ) (address n : ℕ) (ws ws' : List ℕ) : Type 0 where
  pub size : length ws' ≡ length ws
  pub bytes : view W ws' ≡ over address n (λ x. hex_at hex (x - address)) (view W ws)

-- What comes next of the text, from byte i on up to byte r of it, is put.
pub record PutNext (W : ℕ) (hex : List ℕ) (address i : ℕ) (ws ws' : List ℕ) (r : ℕ) : Type 0 where
  pub more : i < r
  pub few : r ≤ length hex / 2
  pub size : length ws' ≡ length ws
  pub bytes : view W ws' ≡ over (address + i) (r - i) (λ x. hex_at hex (x - address)) (view W ws)
