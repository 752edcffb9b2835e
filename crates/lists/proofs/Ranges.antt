-- Ranges of addresses that lie side by side: laying `over` one and then the other, or counting `within` both, is doing so for
-- their union. Said once for a range that grows at its end and for one that grows at its start.
-- Assumes nothing.
use mathlib.Core.Path.{◌≡◌, sym, ap, ◌∙◌, fun_ext}
use Prim.Native.Nat.{ℕ, ◌+◌, ◌<◌, ◌≤◌}
use native.Mathlib.Decide.{dec_lt}
use native.Mathlib.Omega.{arith}
use Rattle.model.specs.Memory.{over}
use Rattle.model.proofs.MemoryLaws.{over_in, over_below, over_above, Place, below, inside, above, place}
use Rattle.lists.specs.Cover.{within}

-- Before or past the n addresses from a.
pub data Outside (a n x : ℕ) : Type 0 where
  before : x < a → Outside a n x
  beyond : a + n ≤ x → Outside a n x

pub over_out : (a n : ℕ) (g f : ℕ → ℕ) (x : ℕ) → Outside a n x → over a n g f x ≡ f x
over_out a n g f x (before l) = over_below a n g f x l
over_out a n g f x (beyond l) = over_above a n g f x l

pub over_not : (a n : ℕ) (g f : ℕ → ℕ) (x : ℕ) → (a ≤ x → x < a + n → ⊥) → over a n g f x ≡ f x
over_not a n g f x h = go (place a n x)
  where
    go : Place a n x → over a n g f x ≡ f x
    go (below l) = over_below a n g f x l
    go (inside l m) = absurd (h l m)
    go (above l) = over_above a n g f x l

pub over_none : (a : ℕ) (g f : ℕ → ℕ) → over a 0 g f ≡ f
over_none a g f = fun_ext (λ x. over_not a 0 g f x (λ l m. omega arith))

within_in : (a n x : ℕ) → a ≤ x → x < a + n → within a n x ≡ 1
unfolding within
within_in a n x l m = over_in a n (λ y. 1) (λ y. 0) x l m

within_out : (a n x : ℕ) → Outside a n x → within a n x ≡ 0
unfolding within
within_out a n x o = over_out a n (λ y. 1) (λ y. 0) x o

pub within_none : (a x : ℕ) → within a 0 x ≡ 0
unfolding within
within_none a x = ap (λ (f : ℕ → ℕ). f x) (over_none a (λ y. 1) (λ y. 0))

-- The n addresses from b are next to the m addresses from a, and together they are the l from c.
pub data Adjacent (a m b n c l : ℕ) : Type 0 where
  rising : b ≡ a + m → c ≡ a → l ≡ m + n → Adjacent a m b n c l
  falling : a ≡ b + n → c ≡ b → l ≡ m + n → Adjacent a m b n c l

-- In which of two neighbours an address lies.
data Lies (a m b n c l x : ℕ) : Type 0 where
  old : a ≤ x → x < a + m → Outside b n x → c ≤ x → x < c + l → Lies a m b n c l x
  new : b ≤ x → x < b + n → Outside a m x → c ≤ x → x < c + l → Lies a m b n c l x
  out : Outside a m x → Outside b n x → Outside c l x → Lies a m b n c l x

swapped : {a m b n c l x : ℕ} → Lies b n a m c l x → Lies a m b n c l x
swapped (old i j o s t) = new i j o s t
swapped (new i j o s t) = old i j o s t
swapped (out p q r) = out q p r

lies_rising : (a m b n c l x : ℕ) → b ≡ a + m → c ≡ a → l ≡ m + n → Lies a m b n c l x
lies_rising a m b n c l x p q r = go (place c l x) (dec_lt x b)
  where
    go : Place c l x → Dec (x < b) → Lies a m b n c l x
    go (below k) d = out (before (omega arith)) (before (omega arith)) (before k)
    go (inside j k) (yes s) = old (omega arith) (omega arith) (before s) j k
    go (inside j k) (no s) = new (omega arith) (omega arith) (beyond (omega arith)) j k
    go (above k) d = out (beyond (omega arith)) (beyond (omega arith)) (beyond k)

lies : (a m b n c l x : ℕ) → Adjacent a m b n c l → Lies a m b n c l x
lies a m b n c l x (rising p q r) = lies_rising a m b n c l x p q r
lies a m b n c l x (falling p q r) = swapped (lies_rising b n a m c l x p q (omega arith))

pub over_adjacent : {a m b n c l : ℕ} (g f : ℕ → ℕ) → Adjacent a m b n c l → over b n g (over a m g f) ≡ over c l g f
over_adjacent {a} {m} {b} {n} {c} {l} g f p = fun_ext (λ x. go x (lies a m b n c l x p))
  where
    go : (x : ℕ) → Lies a m b n c l x → over b n g (over a m g f) x ≡ over c l g f x
    go x (old i j o s t) =
        over_out b n g (over a m g f) x o ∙ over_in a m g f x i j ∙ sym (over_in c l g f x s t)
    go x (new i j o s t) = over_in b n g (over a m g f) x i j ∙ sym (over_in c l g f x s t)
    go x (out o p q) =
        over_out b n g (over a m g f) x p ∙ over_out a m g f x o ∙ sym (over_out c l g f x q)

pub within_adjacent : {a m b n c l : ℕ} (x : ℕ) → Adjacent a m b n c l → within a m x + within b n x ≡ within c l x
within_adjacent {a} {m} {b} {n} {c} {l} x p = go (lies a m b n c l x p)
  where
    go : Lies a m b n c l x → within a m x + within b n x ≡ within c l x
    go (old i j o s t) = rw (within_in a m x i j, within_out b n x o, within_in c l x s t)
    go (new i j o s t) = rw (within_out a m x o, within_in b n x i j, within_in c l x s t)
    go (out o p q) = rw (within_out a m x o, within_out b n x p, within_out c l x q)
