-- What both word sizes have in common: facts about remainders by the word, each settled at 8 and at 4, so that nothing else looks
-- at the size.
-- Assumes nothing.
use mathlib.Core.Path.{◌≡◌, refl, sym}
use mathlib.Core.Bool.{Bool, true, false}
use Prim.Native.Nat.{ℕ, ◌+◌, ◌*◌, ◌-◌, ◌/◌, ◌%◌, ◌<◌, ◌≤◌}
use native.Mathlib.Nat.{mod-lt, mod-eq_of_lt, div-add-mod, le-max_left, le-div_iff_mul-le}
use native.Mathlib.Omega.{arith}
use Rattle.model.specs.Lists.{past, near, threshold, head}
use Rattle.lists.specs.Sizes.{Core, eight_byte, four_byte}

pub core_some : {W : ℕ} → Core W → 0 < W
core_some eight_byte = omega arith
core_some four_byte = omega arith

pub core_quarter : {W : ℕ} → Core W → W % 4 ≡ 0
core_quarter eight_byte = refl
core_quarter four_byte = refl

pub core_small : {W : ℕ} → Core W → W ≤ 8
core_small eight_byte = omega arith
core_small four_byte = omega arith

pub quarter : {W : ℕ} → Core W → (a : ℕ) → a % W ≡ 0 → a % 4 ≡ 0
quarter eight_byte a e = omega arith
quarter four_byte a e = e

-- ---- head, words and tail

-- The m bytes from a cursor to a boundary of a word.
pub record Near (up : Bool) (W c m : ℕ) : Type 0 where
  pub small : m < W
  pub boundary : past up c m % W ≡ 0

pub head_near : {W : ℕ} → Core W → (up : Bool) (c : ℕ) → Near up W c (head up W c)
head_near eight_byte true c = record { small = omega arith; boundary = omega arith }
head_near eight_byte false c = record { small = omega arith; boundary = omega arith }
head_near four_byte true c = record { small = omega arith; boundary = omega arith }
head_near four_byte false c = record { small = omega arith; boundary = omega arith }

-- Where a cursor stands inside a word, the first partial load takes what a head would.
near-head : {W : ℕ} → Core W → (up : Bool) (c : ℕ) → (c % W ≡ 0 → ⊥) → near up W (c % W) ≡ head up W c
near-head {W} p true c o = sym (mod-eq_of_lt (omega (arith, mod-lt c (core_some p))))
near-head p false c o = refl

pub first-near : {W : ℕ} → Core W → (up : Bool) (c : ℕ) → (c % W ≡ 0 → ⊥) → Near up W c (near up W (c % W))
first-near p up c o = rw (near-head p up c o) (head_near p up c)

pub first_some : {W : ℕ} → Core W → (up : Bool) (c : ℕ) → (c % W ≡ 0 → ⊥) → 0 < near up W (c % W)
first_some p true c o = omega (arith, mod-lt c (core_some p))
first_some p false c o = omega arith

-- At the threshold and above it n bytes are a head, some words and a tail.
pub record Split (up : Bool) (W d n : ℕ) : Type 0 where
  pub before : Near up W d (head up W d)
  pub words : 0 < (n - head up W d) / W
  pub after : (n - head up W d) % W < W
  pub sum : n ≡ head up W d + W * ((n - head up W d) / W) + (n - head up W d) % W

pub split : {W : ℕ} → Core W → (up : Bool) (d n : ℕ) → threshold W ≤ n → Split up W d n
split {W} p up d n l =
    let long : 2 * W ≤ n = omega (arith, le-max_left (2 * W) 16) in
    let h : head up W d < W = (head_near p up d).small in
    let rest = n - head up W d in
    record {
      before = head_near p up d;
      words = (le-div_iff_mul-le {k = W} {x = 1} {y = rest} (core_some p)).1 (omega arith);
      after = mod-lt rest (core_some p);
      sum = omega (arith, div-add-mod rest W);
    }
