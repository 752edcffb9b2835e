-- What the calls mean: ISO C, string handling (memcpy, memmove, memset, memcmp, strlen), of the bytes f, by address.
-- Assumes nothing.
use Rattle.std.specs.Prelude.{ℕ, zero, suc, ◌+◌, ◌-◌, Bool, cond, not, eqb, ltb, ℤ, pos, ◌-ℤ◌}
use Rattle.model.specs.Memory.{over, byte_of}

-- "The memcpy function copies n characters from the object pointed to by s2 into the object pointed to by s1." What comes to x
-- is the byte at (x + s2) - s1. (Where the objects overlap C says nothing, and the call is refused.)
unfoldable pub memcpy : ℕ → ℕ → ℕ → (ℕ → ℕ) → ℕ → ℕ
memcpy s1 s2 n f = over s1 n (λ x. f ((x + s2) - s1)) f

-- "Copying takes place as if the n characters from the object pointed to by s2 are first copied into a temporary array of n
-- characters [..], and then the n characters from the temporary array are copied into the object pointed to by s1."
unfoldable pub memmove : ℕ → ℕ → ℕ → (ℕ → ℕ) → ℕ → ℕ
memmove s1 s2 n f = let temporary : ℕ → ℕ = λ i. f (s2 + i) in over s1 n (λ x. temporary (x - s1)) f

-- "The memset function copies the value of c (converted to an unsigned char) into each of the first n characters of the object
-- pointed to by s."
unfoldable pub memset : ℕ → ℤ → ℕ → (ℕ → ℕ) → ℕ → ℕ
memset s c n f = over s n (λ x. byte_of c) f

-- The first place below n at which a test holds; n where there is none.
unfoldable pub first : (ℕ → Bool) → ℕ → ℕ
first t zero = 0
first t (suc n) = let later = suc (first (λ i. t (suc i)) n) in cond (t 0) 0 later

-- "The sign of a nonzero value returned [..] is determined by the sign of the difference between the values of the first pair of
-- characters (both interpreted as unsigned char) that differ in the objects being compared." impls.rs returns that difference.
abbrev pub unequal : ℕ → ℕ → (ℕ → ℕ) → ℕ → Bool
unequal s1 s2 f i = not (eqb (f (s1 + i)) (f (s2 + i)))

abbrev pub difference : ℕ → ℕ → ℕ → (ℕ → ℕ) → ℕ
difference s1 s2 n f = first (unequal s1 s2 f) n

abbrev pub differ_at : ℕ → ℕ → ℕ → (ℕ → ℕ) → ℕ → ℤ
differ_at s1 s2 n f p = cond (ltb p n) (pos (f (s1 + p)) -ℤ pos (f (s2 + p))) (pos 0)

unfoldable pub memcmp : ℕ → ℕ → ℕ → (ℕ → ℕ) → ℤ
memcmp s1 s2 n f = differ_at s1 s2 n f (difference s1 s2 n f)

-- mod.rs: bcmp is memcmp.
abbrev pub bcmp : ℕ → ℕ → ℕ → (ℕ → ℕ) → ℤ
bcmp s1 s2 n f = memcmp s1 s2 n f

-- "The strlen function returns the number of characters that precede the terminating null character." The memory ends, so the
-- null character is looked for among the m characters from s; m is answered where there is none.
abbrev pub is_null : ℕ → (ℕ → ℕ) → ℕ → Bool
is_null s f i = eqb (f (s + i)) 0

abbrev pub strlen : ℕ → ℕ → (ℕ → ℕ) → ℕ
strlen s m f = first (is_null s f) m
