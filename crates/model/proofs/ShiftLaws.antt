-- What shifts by whole bytes, and `|`, do to the bytes of words, over the word size W. As the code has them: `v << s` is
-- v * 2 ^ s modulo 2 ^ (8 * W), and `v >> s` is v / 2 ^ s.
-- Assumes nothing.
use mathlib.Core.Path.{◌≡◌, refl, sym, ap, ap₂, ◌∙◌}
use mathlib.Core.List.{[], ◌∷◌}
use Prim.Native.Nat.{ℕ, zero, suc, ◌+◌, ◌*◌, ◌-◌, ◌/◌, ◌%◌, ◌^◌, ◌<◌, ◌≤◌}
use native.Mathlib.Nat.{add_comm, add-mul, div-div-eq-div-mul, div-lt_iff_lt-mul, div-one, lt_of_lt_of_le, mod-eq_of_lt, mod-lt, mul_assoc, mul-div_cancel, mul-lt-mul_of_pos_right, mul-mod_left, mul-one, mul-suc, mul-zero, pow-le-pow_right, pow-suc}
use native.Mathlib.Omega.{arith}
use lib.Arith.{digits_div, mod-mul}
use lib.Bits.{bit_or, or_shifted_r}
use lib.Pow.{pow-add}
use Rattle.model.specs.Memory.{byte, view, read_le, over, laid}
use Rattle.model.proofs.ByteLaws.{pow_256, read_le-append, read_le_bytes, read_le_cong, read_le_lt}
use Rattle.model.proofs.MemoryLaws.{read_le-view}
use Rattle.model.proofs.SpliceLaws.{splice_lt, spliced, taken_le}

pub pow_bits : (k : ℕ) → 2 ^ (8 * k) ≡ 256 ^ k
pow_bits zero = refl
pow_bits (suc k) = rw (mul-suc 8 k, pow-add 2 (8 * k) 8, pow_bits k, pow-suc 256 k)

-- A shift by s bits is one by k bytes.
bits_bytes : (k : ℕ) {s : ℕ} → s ≡ 8 * k → 2 ^ s ≡ 256 ^ k
bits_bytes k e = rw e (pow_bits k)

-- ---- one word

-- The bytes that are shifted out at the top are lost.
shifted_left : (v m p : ℕ) → v * 256 ^ p % 256 ^ (m + p) ≡ v % 256 ^ m * 256 ^ p
shifted_left v m p =
    ap (λ (y : ℕ). v * 256 ^ p % y) (pow-add 256 m p) ∙ mod-mul (v * 256 ^ p) (pow_256 m) (pow_256 p)
    ∙ rw (mul-div_cancel v (pow_256 p), mul-mod_left v (256 ^ p)) (omega arith)

-- n bytes that stay inside the word are shifted whole.
pub shifted_whole : (W n p y : ℕ) {s : ℕ} → y < 256 ^ n → n + p ≤ W → s ≡ 8 * p → y * 2 ^ s % 2 ^ (8 * W) ≡ y * 256 ^ p
shifted_whole W n p y h l e =
    rw (bits_bytes p e, pow_bits W)
    (ap (λ (x : ℕ). y * 256 ^ p % 256 ^ x) (omega arith) ∙ shifted_left y (W - p) p
    ∙ ap (λ (x : ℕ). x * 256 ^ p) (mod-eq_of_lt (lt_of_lt_of_le h (pow-le-pow_right (omega arith) (omega arith)))))

-- Shifted to the left, the bytes from o + n on are lost, and shifted back those below o: the n bytes from byte o on are left.
pub shifted_part : (W o n v : ℕ) {s t : ℕ} → o + n ≤ W → s ≡ 8 * (W - n - o) → t ≡ 8 * (W - n)
    → v * 2 ^ s % 2 ^ (8 * W) / 2 ^ t ≡ read_le (byte v) o n
shifted_part W o n v l e d =
    rw (bits_bytes (W - n - o) e, bits_bytes (W - n) d, pow_bits W, read_le_bytes v o n)
    (ap₂ (λ (x y : ℕ). v * 256 ^ (W - n - o) % 256 ^ x / 256 ^ y) (omega arith) (omega arith) ∙ split (W - n - o))
  where
    split : (p : ℕ) → v * 256 ^ p % 256 ^ ((n + o) + p) / 256 ^ (p + o) ≡ v / 256 ^ o % 256 ^ n
    split p =
        rw (shifted_left v (n + o) p, pow-add 256 p o, ← div-div-eq-div-mul (v % 256 ^ (n + o) * 256 ^ p) (256 ^ p) (256 ^ o), mul-div_cancel (v % 256 ^ (n + o)) (pow_256 p), pow-add 256 n o, mod-mul v (pow_256 n) (pow_256 o))
        (digits_div (v / 256 ^ o % 256 ^ n) (mod-lt v (pow_256 o)))

-- n bytes of v from byte o on, shifted to byte p.
shifted_back : (W o n p v : ℕ) {y s : ℕ} → n + p ≤ W → y ≡ read_le (byte v) o n → s ≡ 8 * p
    → y * 2 ^ s % 2 ^ (8 * W) ≡ v / 256 ^ o % 256 ^ n * 256 ^ p
shifted_back W o n p v l d e =
    rw (d ∙ read_le_bytes v o n) (shifted_whole W n p (v / 256 ^ o % 256 ^ n) (mod-lt (v / 256 ^ o) (pow_256 n)) l e)

-- The word v with n bytes from byte o on taken out, and the lowest n bytes of x put in: nothing goes below zero or is lost.
pub record Replaced (W o n v x old new : ℕ) : Type 0 where
  pub taken : old ≤ v
  pub fits : v - old + new < 2 ^ (8 * W)
  pub bytes : byte (v - old + new) ≡ over o n (laid x o) (byte v)

pub replaced : (W o n v x : ℕ) {p q s : ℕ} → o + n ≤ W → v < 2 ^ (8 * W) → p ≡ read_le (byte v) o n → q ≡ read_le (byte x) 0 n
    → s ≡ 8 * o → Replaced W o n v x (p * 2 ^ s % 2 ^ (8 * W)) (q * 2 ^ s % 2 ^ (8 * W))
replaced W o n v x l h d e k =
    rw (shifted_back W o n o v (omega arith) d k, shifted_back W 0 n o x (omega arith) e k, div-one x) record {
      taken = taken_le v o n;
      fits = rw (pow_bits W) (splice_lt W v o n x l (rw (pow_bits W) at h));
      bytes = spliced v o n x;
    }

-- ---- side by side

-- What lies below byte p, and what begins there.
pub or_bytes : (p x y : ℕ) → x < 256 ^ p → bit_or x (y * 256 ^ p) ≡ y * 256 ^ p + x
or_bytes p x y l = rw (← pow_bits p) (or_shifted_r y (8 * p) x (rw (pow_bits p) l))

-- The o bytes from a on stand from byte p on; the next n bytes go above them.
pub stacked : (W : ℕ) (f : ℕ → ℕ) → ((x : ℕ) → f x < 256) → (a p o n : ℕ) {s : ℕ} → p + o + n ≤ W → s ≡ 8 * (p + o)
    → bit_or (read_le f a o * 256 ^ p) (read_le f (a + o) n * 2 ^ s % 2 ^ (8 * W)) ≡ read_le f a (o + n) * 256 ^ p
stacked W f h a p o n l e =
    ap (bit_or (read_le f a o * 256 ^ p)) (shifted_whole W n (p + o) (read_le f (a + o) n) (read_le_lt f h (a + o) n) (omega arith) e)
    ∙ or_bytes (p + o) (read_le f a o * 256 ^ p) (read_le f (a + o) n) below
    ∙ rw (read_le-append f a o n, add-mul (read_le f (a + o) n * 256 ^ o) (read_le f a o) (256 ^ p), mul_assoc (read_le f (a + o) n) (256 ^ o) (256 ^ p), ← pow-add 256 o p, add_comm p o)
  where
    below : read_le f a o * 256 ^ p < 256 ^ (p + o)
    below = rw (add_comm p o, pow-add 256 o p) (mul-lt-mul_of_pos_right (read_le_lt f h a o) (pow_256 p))

upper_lt : (W o v : ℕ) → o ≤ W → v < 256 ^ W → v / 256 ^ o < 256 ^ (W - o)
upper_lt W o v l h =
    let e : W ≡ (W - o) + o = omega arith in
    (div-lt_iff_lt-mul (pow_256 o)).1 (rw (← pow-add 256 (W - o) o, ← e) h)

-- Of two words in a row, the W bytes from byte o on: the upper bytes of the first, and above them the lower bytes of the second.
pub straddle : (W o low high : ℕ) → o ≤ W → low < 256 ^ W
    → read_le (view W (low ∷ high ∷ [])) o W ≡ high % 256 ^ o * 256 ^ (W - o) + low / 256 ^ o
straddle W o low high l h =
    ap (read_le (view W (low ∷ high ∷ [])) o) (omega arith) ∙ read_le-append (view W (low ∷ high ∷ [])) o (W - o) o
    ∙ ap₂ (λ (x y : ℕ). x * 256 ^ (W - o) + y) second first
  where
    first : read_le (view W (low ∷ high ∷ [])) o (W - o) ≡ low / 256 ^ o
    first =
        read_le-view W (low ∷ high ∷ []) 0 o (W - o) (omega (arith, mul-zero W)) (omega arith)
        ∙ read_le_bytes low o (W - o) ∙ mod-eq_of_lt (upper_lt W o low l h)

    second : read_le (view W (low ∷ high ∷ [])) (o + (W - o)) o ≡ high % 256 ^ o
    second =
        read_le-view W (low ∷ high ∷ []) 1 0 o (omega (arith, mul-one W)) (omega arith)
        ∙ read_le_bytes high 0 o ∙ ap (λ (y : ℕ). y % 256 ^ o) (div-one high)

-- The reassembly, as impls.rs writes it.
pub reassembly : (W o low high : ℕ) {s t : ℕ} → o ≤ W → low < 2 ^ (8 * W) → s ≡ 8 * o → t ≡ 8 * W - 8 * o
    → bit_or (low / 2 ^ s) (high * 2 ^ t % 2 ^ (8 * W)) ≡ read_le (view W (low ∷ high ∷ [])) o W
reassembly W o low high {s} {t} l h e d =
    rw (bits_bytes o e, bits_bytes (W - o) apart, pow_bits W)
    (ap (bit_or (low / 256 ^ o)) (ap (λ (x : ℕ). high * 256 ^ (W - o) % 256 ^ x) (omega arith) ∙ shifted_left high o (W - o))
    ∙ or_bytes (W - o) (low / 256 ^ o) (high % 256 ^ o) (upper_lt W o low l small) ∙ sym (straddle W o low high l small))
  where
    apart : t ≡ 8 * (W - o)
    apart = omega arith

    small : low < 256 ^ W
    small = rw (pow_bits W) at h

-- n equal bytes, and the same n above them.
pub doubling : (W n c : ℕ) {s : ℕ} → c < 256 → n + n ≤ W → s ≡ 8 * n
    → bit_or (read_le (λ x. c) 0 n) (read_le (λ x. c) 0 n * 2 ^ s % 2 ^ (8 * W)) ≡ read_le (λ x. c) 0 (n + n)
doubling W n c h l e =
    ap (bit_or (read_le (λ x. c) 0 n)) (shifted_whole W n n (read_le (λ x. c) 0 n) small l e)
    ∙ or_bytes n (read_le (λ x. c) 0 n) (read_le (λ x. c) 0 n) small
    ∙ ap (λ (y : ℕ). y * 256 ^ n + read_le (λ x. c) 0 n) (read_le_cong (λ x. c) (λ x. c) 0 (0 + n) n (λ j m. refl))
    ∙ sym (read_le-append (λ x. c) 0 n n)
  where
    small : read_le (λ x. c) 0 n < 256 ^ n
    small = read_le_lt (λ x. c) (λ x. h) 0 n
