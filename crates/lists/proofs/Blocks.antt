-- A block: accesses of one kind that take up the m bytes from a, one after the other, at rising addresses. Performed, it does what
-- one access of m bytes would do; it covers each of these bytes once and no other.
-- By induction on the block. Assumes nothing.
use mathlib.Core.Path.{◌≡◌, refl, sym, ap, ◌∙◌}
use mathlib.Core.List.{List, [], ◌∷◌, ◌++◌}
use Prim.Native.Nat.{ℕ, ◌+◌, ◌%◌, ◌≤◌}
use native.Mathlib.Omega.{arith}
use Rattle.model.specs.Access.{Access, load, store}
use Rattle.model.specs.Fit.{Aligned, Every, none, next}
use Rattle.model.specs.Perform.{State, step, perform}
use Rattle.model.specs.Tally.{total}
use Rattle.lists.specs.Cover.{within}
use Rattle.lists.proofs.Ranges.{rising, over_adjacent, within_adjacent, over_none, within_none}

pub data Block (W : ℕ) (kind : ℕ → ℕ → Access) : List Access → ℕ → ℕ → Type 0 where
  empty : {a : ℕ} → Block W kind [] a 0
  more : {w a m : ℕ} {xs : List Access} → Aligned W w a → Block W kind xs (a + w) m → Block W kind (kind w a ∷ xs) a (w + m)

pub resized : {W : ℕ} {kind : ℕ → ℕ → Access} {xs : List Access} {a b m n : ℕ} → Block W kind xs a m → a ≡ b → n ≡ m
    → Block W kind xs b n
resized r e q = rw (← e, q) r

pub block_append : {W : ℕ} {kind : ℕ → ℕ → Access} {xs ys : List Access} {a b m n l : ℕ} → Block W kind xs a m
    → Block W kind ys b n → b ≡ a + m → l ≡ m + n → Block W kind (xs ++ ys) a l
block_append empty r e q = resized r (omega arith) (omega arith)
block_append (more p r) s e q = resized (more p (block_append r s (omega arith) refl)) refl (omega arith)

pub aligned : {W w a : ℕ} → W % w ≡ 0 → a % w ≡ 0 → Aligned W w a
aligned p q = record { divides = p; multiple = q }

pub single : {W w : ℕ} (kind : ℕ → ℕ → Access) (a : ℕ) → Aligned W w a → Block W kind (kind w a ∷ []) a w
single kind a p = resized (more p empty) refl (omega arith)

-- What each access counts for its bytes, and adds up over neighbouring ranges, the block counts for all of its bytes.
block_total : {W : ℕ} {kind : ℕ → ℕ → Access} {xs : List Access} {a m : ℕ} (c : Access → ℕ) (bytes : ℕ → ℕ → ℕ)
    → ((w b : ℕ) → c (kind w b) ≡ bytes b w) → ((b : ℕ) → bytes b 0 ≡ 0)
    → ((b v w : ℕ) → bytes b (v + w) ≡ bytes b v + bytes (b + v) w) → Block W kind xs a m → total c xs ≡ bytes a m
unfolding total
block_total c bytes each nil sum (empty {a}) = sym (nil a)
block_total c bytes each nil sum (more {w} {a} {m} p r) =
    rw (each w a, block_total c bytes each nil sum r) (sym (sum a w m))

-- What holds of each aligned access of this kind among the bytes holds of every access of the block.
pub block_every : {W : ℕ} {kind : ℕ → ℕ → Access} {xs : List Access} {a m : ℕ} {P : Access → Type 0} → Block W kind xs a m
    → ((w b : ℕ) → Aligned W w b → a ≤ b → b + w ≤ a + m → P (kind w b)) → Every P xs
block_every empty h = none
block_every (more {w} {a} p r) h =
    next (h w a p (omega arith) (omega arith)) (block_every r (λ v b q k l. h v b q (omega arith) (omega arith)))

-- The block does what one access of all its bytes would do.
block_performed : {W : ℕ} {kind : ℕ → ℕ → Access} {xs : List Access} {a m : ℕ} (give : (ℕ → ℕ) → ℕ → ℕ)
    → ((b : ℕ) (z : State) → step give (kind 0 b) z ≡ z)
    → ((b v w : ℕ) (z : State) → step give (kind w (b + v)) (step give (kind v b) z) ≡ step give (kind (v + w) b) z)
    → Block W kind xs a m → (z : State) → perform give xs z ≡ step give (kind m a) z
unfolding perform
block_performed give nil both (empty {a}) z = sym (nil a z)
block_performed {kind = kind} give nil both (more {w} {a} {m} p r) z =
    block_performed give nil both r (step give (kind w a) z) ∙ both a w m z

-- ---- loads, and stores

pub loads_performed : {W : ℕ} {xs : List Access} {a m : ℕ} (give : (ℕ → ℕ) → ℕ → ℕ) → Block W load xs a m → (z : State)
    → perform give xs z ≡ step give (load m a) z
loads_performed give r z =
    block_performed give (λ b z. ap (holding z) (over_none b z.bytes z.held))
    (λ b v w z. ap (holding z) (over_adjacent z.bytes z.held (rising refl refl refl))) r z
  where
    holding : State → (ℕ → ℕ) → State
    holding z h = record { bytes = z.bytes; held = h }

pub stores_performed : {W : ℕ} {xs : List Access} {a m : ℕ} (give : (ℕ → ℕ) → ℕ → ℕ) → Block W store xs a m → (z : State)
    → perform give xs z ≡ step give (store m a) z
stores_performed give r z =
    block_performed give (λ b z. ap (leaving z) (over_none b (give z.held) z.bytes))
    (λ b v w z. ap (leaving z) (over_adjacent (give z.held) z.bytes (rising refl refl refl))) r z
  where
    leaving : State → (ℕ → ℕ) → State
    leaving z f = record { bytes = f; held = z.held }

-- Of its own kind a block has one access at each of its bytes and none elsewhere.
pub block_once : {W : ℕ} {kind : ℕ → ℕ → Access} {xs : List Access} {a m : ℕ} (c : Access → ℕ) (x : ℕ)
    → ((w b : ℕ) → c (kind w b) ≡ within b w x) → Block W kind xs a m → total c xs ≡ within a m x
block_once c x each r =
    block_total c (λ b w. within b w x) each (λ b. within_none b x)
    (λ b v w. sym (within_adjacent x (rising refl refl refl))) r

-- And none of the other kind.
pub block_never : {W : ℕ} {kind : ℕ → ℕ → Access} {xs : List Access} {a m : ℕ} (c : Access → ℕ)
    → ((w b : ℕ) → c (kind w b) ≡ 0) → Block W kind xs a m → total c xs ≡ 0
block_never c each r = block_total c (λ b w. 0) each (λ b. refl) (λ b v w. refl) r
