-- Some bytes of a number taken out, and others put in their place: nothing goes below zero or grows past the word, and all other bytes
-- stay.
-- Assumes nothing.
use mathlib.Core.Path.{◌≡◌, sym, ap, ◌∙◌, fun_ext}
use Prim.Native.Nat.{ℕ, ◌+◌, ◌*◌, ◌-◌, ◌/◌, ◌%◌, ◌^◌, ◌<◌, ◌≤◌}
use native.Mathlib.Nat.{add-mul, div-add-mod', div-lt_iff_lt-mul, mod-le, mod-lt, mul-le-mul_right}
use native.Mathlib.Omega.{arith}
use lib.Arith.{digits_lt}
use lib.Pow.{pow-add}
use Rattle.model.specs.Memory.{byte, over, laid}
use Rattle.model.proofs.ByteLaws.{byte_div, byte_high, byte_low, byte_mod, pow_256}
use Rattle.model.proofs.MemoryLaws.{over_in, over_below, over_above, Place, below, inside, above, place}

-- Taking out the n bytes of v from byte o on, and putting in the lowest n bytes of x.
abbrev pub splice : ℕ → ℕ → ℕ → ℕ → ℕ
splice v o n x = v - v / 256 ^ o % 256 ^ n * 256 ^ o + x % 256 ^ n * 256 ^ o

pub taken_le : (v o n : ℕ) → v / 256 ^ o % 256 ^ n * 256 ^ o ≤ v
taken_le v o n =
    omega (arith, div-add-mod' v (256 ^ o), mul-le-mul_right (256 ^ o) (mod-le (v / 256 ^ o) (256 ^ n)))

-- What is above byte o afterwards.
abbrev upper : ℕ → ℕ → ℕ → ℕ → ℕ
upper v o n x = v / 256 ^ o / 256 ^ n * 256 ^ n + x % 256 ^ n

regrouped : (v o n x : ℕ) → splice v o n x ≡ upper v o n x * 256 ^ o + v % 256 ^ o
regrouped v o n x =
    let q : ℕ = v / 256 ^ o in
    omega (
      arith,
      div-add-mod' v (256 ^ o),
      ap (λ (y : ℕ). y * 256 ^ o) (div-add-mod' q (256 ^ n)),
      add-mul (q / 256 ^ n * 256 ^ n) (q % 256 ^ n) (256 ^ o),
      add-mul (q / 256 ^ n * 256 ^ n) (x % 256 ^ n) (256 ^ o),
    )

pub splice_lt : (W v o n x : ℕ) → o + n ≤ W → v < 256 ^ W → splice v o n x < 256 ^ W
splice_lt W v o n x l h = rw (regrouped v o n x, whole) (digits_lt (digits_lt above (mod-lt x (pow_256 n))) (mod-lt v (pow_256 o)))
  where
    whole : 256 ^ W ≡ 256 ^ (W - o - n) * 256 ^ n * 256 ^ o
    whole =
        let e : W ≡ (W - o - n) + n + o = omega arith in
        ap (λ (y : ℕ). 256 ^ y) e ∙ rw (pow-add 256 ((W - o - n) + n) o, pow-add 256 (W - o - n) n)

    above : v / 256 ^ o / 256 ^ n < 256 ^ (W - o - n)
    above = (div-lt_iff_lt-mul (pow_256 n)).1 ((div-lt_iff_lt-mul (pow_256 o)).1 (rw (← whole) h))

pub spliced : (v o n x : ℕ) → byte (splice v o n x) ≡ over o n (laid x o) (byte v)
spliced v o n x = ap byte (regrouped v o n x) ∙ fun_ext (λ j. go j (place o n j))
  where
    go : (j : ℕ) → Place o n j → byte (upper v o n x * 256 ^ o + v % 256 ^ o) j ≡ over o n (laid x o) (byte v) j
    go j (below l) =
        byte_low (upper v o n x) o (v % 256 ^ o) j l ∙ sym (byte_mod v o j l) ∙ sym (over_below o n (laid x o) (byte v) j l)
    go j (inside l m) =
        let i : ℕ = j - o in
        let e : j ≡ o + i = omega arith in
        let k : i < n = omega arith in
        ap (byte (upper v o n x * 256 ^ o + v % 256 ^ o)) e
        ∙ byte_high (upper v o n x) o (v % 256 ^ o) i (mod-lt v (pow_256 o))
        ∙ byte_low (v / 256 ^ o / 256 ^ n) n (x % 256 ^ n) i k ∙ sym (byte_mod x n i k)
        ∙ sym (over_in o n (laid x o) (byte v) j l m)
    go j (above l) =
        let i : ℕ = j - (o + n) in
        let e : j ≡ o + (n + i) = omega arith in
        ap (byte (upper v o n x * 256 ^ o + v % 256 ^ o)) e
        ∙ byte_high (upper v o n x) o (v % 256 ^ o) (n + i) (mod-lt v (pow_256 o))
        ∙ byte_high (v / 256 ^ o / 256 ^ n) n (x % 256 ^ n) i (mod-lt x (pow_256 n))
        ∙ sym (ap (byte v) e ∙ byte_div v o (n + i) ∙ byte_div (v / 256 ^ o) n i)
        ∙ sym (over_above o n (laid x o) (byte v) j l)
