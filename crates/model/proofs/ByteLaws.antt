-- The bytes of a number, lowest first: which bytes a number of two parts has, and which number a run of bytes makes.
-- Assumes nothing.
use mathlib.Core.Path.{◌≡◌, refl, sym, ap, ap₂, ◌∙◌}
use mathlib.Core.Logic.{⊎_elim}
use Prim.Native.Nat.{ℕ, zero, suc, ◌+◌, ◌*◌, ◌-◌, ◌/◌, ◌%◌, ◌^◌, ◌<◌}
use native.Mathlib.Nat.{add_assoc, add-mul, add-suc, add-zero, div-add-mod', div-div-eq-div-mul, eq-or-lt_of_le, le_of_suc-le-suc, mod-eq_of_lt, mod-lt, mod-one, mul-add-div_right, mul-add-mod_self_right, mul_assoc, mul_comm, pow-succ'}
use native.Mathlib.Omega.{arith}
use lib.Arith.{digits_div, digits_lt, mod-mul}
use lib.Pow.{pow-add}
use Rattle.model.specs.Memory.{byte, read_le}

pub pow_256 : (n : ℕ) → 0 < 256 ^ n
pow_256 zero = omega arith
pow_256 (suc n) = rw (pow-succ' 256 n) (omega (arith, pow_256 n))

pub byte_lt : (v j : ℕ) → byte v j < 256
byte_lt v j = mod-lt (v / 256 ^ j) (omega arith)

-- ---- a number x * 256 ^ p + r: the bytes below p are r's, those from p on are x's

pub byte_low : (x p r j : ℕ) → j < p → byte (x * 256 ^ p + r) j ≡ byte r j
byte_low x p r j l =
    ap (λ (y : ℕ). byte (y + r) j) regrouped
    ∙ ap (λ (y : ℕ). y % 256) (mul-add-div_right (pow_256 j) (x * 256 ^ (p - suc j) * 256) r)
    ∙ mul-add-mod_self_right (x * 256 ^ (p - suc j)) 256 (r / 256 ^ j)
  where
    regrouped : x * 256 ^ p ≡ x * 256 ^ (p - suc j) * 256 * 256 ^ j
    regrouped =
        let e : p ≡ (p - suc j) + suc j = omega arith in
        ap (λ (q : ℕ). x * 256 ^ q) e ∙ rw (pow-add 256 (p - suc j) (suc j), pow-succ' 256 j) (simp mul_assoc)

pub byte_div : (v p j : ℕ) → byte v (p + j) ≡ byte (v / 256 ^ p) j
byte_div v p j = rw (pow-add 256 p j, ← div-div-eq-div-mul v (256 ^ p) (256 ^ j))

pub byte_high : (x p r j : ℕ) → r < 256 ^ p → byte (x * 256 ^ p + r) (p + j) ≡ byte x j
byte_high x p r j l = byte_div (x * 256 ^ p + r) p j ∙ ap (λ (y : ℕ). byte y j) (digits_div x l)

-- So the lowest p bytes of any number are its remainder's (and the others its quotient's: `byte_div`).
pub byte_mod : (v p j : ℕ) → j < p → byte v j ≡ byte (v % 256 ^ p) j
byte_mod v p j l =
    ap (λ (y : ℕ). byte y j) (sym (div-add-mod' v (256 ^ p))) ∙ byte_low (v / 256 ^ p) p (v % 256 ^ p) j l

-- ---- the number that a run of bytes makes

pub read_le_lt : (f : ℕ → ℕ) → ((x : ℕ) → f x < 256) → (a n : ℕ) → read_le f a n < 256 ^ n
unfolding read_le
read_le_lt f h a zero = omega arith
read_le_lt f h a (suc n) = rw (pow-succ' 256 n) (digits_lt (h (a + n)) (read_le_lt f h a n))

pub read_le-byte : (f : ℕ → ℕ) → ((x : ℕ) → f x < 256) → (a n j : ℕ) → j < n → byte (read_le f a n) j ≡ f (a + j)
unfolding read_le
read_le-byte f h a zero j l = absurd (omega arith)
read_le-byte f h a (suc n) j l =
    ⊎_elim top (λ m. byte_low (f (a + n)) n (read_le f a n) j m ∙ read_le-byte f h a n j m)
    (eq-or-lt_of_le (le_of_suc-le-suc l))
  where
    top : j ≡ n → byte (f (a + n) * 256 ^ n + read_le f a n) j ≡ f (a + j)
    top e = rw e (ap (λ (y : ℕ). y % 256) (digits_div (f (a + n)) (read_le_lt f h a n)) ∙ mod-eq_of_lt (h (a + n)))

pub read_le_cong : (f g : ℕ → ℕ) (a b n : ℕ) → ((j : ℕ) → j < n → f (a + j) ≡ g (b + j)) → read_le f a n ≡ read_le g b n
unfolding read_le
read_le_cong f g a b zero h = refl
read_le_cong f g a b (suc n) h =
    ap₂ (λ (x y : ℕ). x * 256 ^ n + y) (h n (omega arith)) (read_le_cong f g a b n (λ j l. h j (omega arith)))

-- One byte.
pub read_le_one : (f : ℕ → ℕ) (a : ℕ) → read_le f a 1 ≡ f a
unfolding read_le
read_le_one f a = rw (add-zero a) (omega arith)

-- Two runs in a row: the second is the upper part.
pub read_le-append : (f : ℕ → ℕ) (a m n : ℕ) → read_le f a (m + n) ≡ read_le f (a + m) n * 256 ^ m + read_le f a m
unfolding read_le
read_le-append f a m zero = ap (read_le f a) (add-zero m) ∙ omega arith
read_le-append f a m (suc n) = rw (add-suc m n, read_le-append f a m n, ← add_assoc a m n, pow-add 256 m n)
    (simp (add-mul, mul_assoc, add_assoc, mul_comm (256 ^ m) (256 ^ n)))

-- The n bytes of a number from byte o on.
pub read_le_bytes : (v o n : ℕ) → read_le (byte v) o n ≡ v / 256 ^ o % 256 ^ n
unfolding read_le
read_le_bytes v o zero = sym (mod-one (v / 256 ^ o))
read_le_bytes v o (suc n) =
    rw (pow-succ' 256 n, mod-mul (v / 256 ^ o) {m = 256} {c = 256 ^ n} (omega arith) (pow_256 n), read_le_bytes v o n, pow-add 256 o n, ← div-div-eq-div-mul v (256 ^ o) (256 ^ n))
