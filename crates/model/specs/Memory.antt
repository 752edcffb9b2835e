-- Document 01, "The lent memory": the bytes of a slice of k words, over the word size W (8 bytes; 4 on the 4-byte core).
-- Assumes nothing.
use Rattle.std.specs.Prelude.{ℕ, zero, suc, ◌+◌, ◌*◌, ◌-◌, ◌/◌, ◌%◌, ◌^◌, cond, ◌&&◌, List, [], ◌∷◌, ◌++◌, leb, ltb, ℤ, pos, negsuc, get_or}

-- The most words that may be lent: 65,536 bytes of them.
abbrev pub most_words : ℕ → ℕ
most_words W = 65536 / W

-- Byte j of a number, lowest byte first.
abbrev pub byte : ℕ → ℕ → ℕ
byte v j = v / 256 ^ j % 256

-- The byte at address a is byte a mod W of word a div W.
unfoldable pub view : ℕ → List ℕ → ℕ → ℕ
view W ws a = byte (get_or ws (a / W) 0) (a % W)

-- The number that the n bytes from address a make, lowest byte first.
unfoldable pub read_le : (ℕ → ℕ) → ℕ → ℕ → ℕ
read_le f a zero = 0
read_le f a (suc n) = f (a + n) * 256 ^ n + read_le f a n

-- The k words whose bytes are f.
unfoldable pub packed : ℕ → ℕ → (ℕ → ℕ) → List ℕ
packed W zero f = []
packed W (suc k) f = packed W k f ++ (read_le f (W * k) W ∷ [])

-- The bytes f, but g at the n addresses from a.
unfoldable pub over : ℕ → ℕ → (ℕ → ℕ) → (ℕ → ℕ) → ℕ → ℕ
over a n g f x = cond (leb a x && ltb x (a + n)) (g x) (f x)

-- The bytes of the number v, laid at the addresses from a on.
abbrev pub laid : ℕ → ℕ → ℕ → ℕ
laid v a x = byte v (x - a)

-- The byte stored by a fill is c mod 256, from 0 to 255: -1 gives 255 and 256 gives 0. (`negsuc n` is -1 - n.)
abbrev pub byte_of : ℤ → ℕ
byte_of (pos n) = n % 256
byte_of (negsuc n) = 255 - n % 256
