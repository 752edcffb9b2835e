-- A number's text by its digits, as `io::decimal` gives them (`digits_decimal`).
-- Assumes nothing.
use mathlib.Core.Path.{◌≡◌, refl, ap}
use mathlib.Core.Bool.{Bool, true, false, cond}
use mathlib.Core.List.{[], ◌∷◌, ◌++◌}
use Prim.Native.Nat.{ℕ, zero, suc, ◌-◌, ◌/◌, ◌%◌, ◌^◌, ◌≤◌, ◌<◌}
use native.Mathlib.Nat.{pow-suc, one-le-pow, pow-le-pow_right, mod-eq_of_lt, lt_of_not-le}
use native.Mathlib.Omega.{arith}
use lib.Dec.{ltb}
use borrow.Author.Tests.{ltb-true, ltb-false}
use Rattle.io.specs.Digits.{hex_digit_ascii, last_digits, IsDigitCount}
use Rattle.show.specs.Numbers.{decimal_in, decimal}
use Rattle.show.specs.Sizes.{most_number}

tens : (k : ℕ) → 10 ^ (suc k - 1) ≡ 10 ^ k
tens k = ap (λ (e : ℕ). 10 ^ e) (omega arith)

-- The number without its last digit has one digit less.
fewest_tenth : (k n : ℕ) → IsDigitCount 10 1 n (suc (suc k)) → IsDigitCount 10 1 (n / 10) (suc k)
fewest_tenth k n h = (
  omega arith,
  omega (arith, h.1, pow-suc 10 (suc k)),
  λ l. omega (arith, h.2 (omega arith), tens k, tens (suc k), pow-suc 10 k),
)

last_digit : (f k n : ℕ) → IsDigitCount 10 1 n (suc k) → (IsDigitCount 10 1 (n / 10) k → last_digits 10 k (n / 10) ≡ decimal_in f (n / 10))
    → (b : Bool) → ltb n 10 ≡ b → last_digits 10 (suc k) n ≡ cond b (hex_digit_ascii n ∷ []) (decimal_in f (n / 10) ++ (hex_digit_ascii (n % 10) ∷ []))
last_digit f zero n h more true e = rw (mod-eq_of_lt (ltb-true n 10 e))
last_digit f zero n h more false e = absurd (omega (arith, h.1, ltb-false n 10 e))
last_digit f (suc k) n h more true e =
    absurd (omega (arith, h.2 (omega arith), tens (suc k), pow-suc 10 k, one-le-pow k 10 (omega arith), ltb-true n 10 e))
last_digit f (suc k) n h more false e = rw (more (fewest_tenth k n h))

pub fewest_decimal : (f k n : ℕ) → IsDigitCount 10 1 n k → k ≤ f → last_digits 10 k n ≡ decimal_in f n
unfolding decimal_in
fewest_decimal f zero n h l = absurd (omega arith)
fewest_decimal zero (suc k) n h l = absurd (omega arith)
fewest_decimal (suc f) (suc k) n h l = last_digit f k n h (λ t. fewest_decimal f k (n / 10) t (omega arith)) (ltb n 10) refl

-- A number of 64 bits.
pub fewest_few : (n k : ℕ) → IsDigitCount 10 1 n k → n < 2 ^ 64 → k ≤ most_number
fewest_few n k h b =
    let few : k < 21 = lt_of_not-le (λ l. omega (arith, h.2 (omega arith), twenty l)) in
    omega arith
  where
    twenty : 21 ≤ k → 10 ^ 20 ≤ 10 ^ (k - 1)
    twenty l = pow-le-pow_right {n = 10} (omega arith) {i = 20} {j = k - 1} (omega arith)

pub digits_decimal : (n k : ℕ) → IsDigitCount 10 1 n k → n < 2 ^ 64 → last_digits 10 k n ≡ decimal n
digits_decimal n k h b = fewest_decimal most_number k n h (fewest_few n k h b)
