-- Both directions at once: facts about cursors, each settled going up and going down, so that what is said of lists need not look
-- at the direction again.
-- Assumes nothing.
use mathlib.Core.Path.{◌≡◌, refl, sym, ap, ◌∙◌}
use mathlib.Core.Bool.{Bool, true, false}
use Prim.Native.Nat.{ℕ, suc, ◌+◌, ◌*◌, ◌-◌, ◌%◌, ◌≤◌}
use native.Mathlib.Nat.{mul-suc, add-mul-mod_self_left}
use native.Mathlib.Omega.{arith}
use Rattle.model.specs.Lists.{cursor, chunk, past}
use Rattle.lists.proofs.Ranges.{Adjacent, rising, falling}

-- Down from a cursor there must be room for n bytes.
abbrev pub Room : Bool → ℕ → ℕ → Type 0
Room true c n = Unit {0}
Room false c n = n ≤ c

pub room_less : (up : Bool) (c m n : ℕ) → m ≤ n → Room up c n → Room up c m
room_less true c m n l r = tt
room_less false c m n l r = omega arith

pub room_past : (up : Bool) (c k m n : ℕ) → Room up c n → k + m ≤ n → Room up (past up c k) m
room_past true c k m n r l = tt
room_past false c k m n r l = omega arith

-- ---- moving on

pub past_none : (up : Bool) (c : ℕ) → past up c 0 ≡ c
past_none true c = omega arith
past_none false c = omega arith

pub past-past : (up : Bool) (c k m : ℕ) → past up (past up c k) m ≡ past up c (k + m)
past-past true c k m = omega arith
past-past false c k m = omega arith

-- The next w bytes lie side by side with the k bytes behind them.
pub next_chunk : (up : Bool) (c k w : ℕ) → Room up c (k + w)
    → Adjacent (chunk up c k) k (chunk up (past up c k) w) w (chunk up c (k + w)) (k + w)
next_chunk true c k w r = rising refl refl refl
next_chunk false c k w r = falling (omega arith) (omega arith) refl

-- From a boundary of a width, whole widths lead to boundaries, and their chunks begin at them.
pub past_boundary : (up : Bool) (c n k w i : ℕ) → Room up c n → k + w * i ≤ n → past up c k % w ≡ 0
    → past up c (k + w * i) % w ≡ 0
past_boundary true c n k w i r l e =
    ap (λ (x : ℕ). x % w) (omega arith) ∙ add-mul-mod_self_left (c + k) w i ∙ e
past_boundary false c n k w i r l e =
    sym (add-mul-mod_self_left (c - (k + w * i)) w i) ∙ ap (λ (x : ℕ). x % w) (omega arith) ∙ e

pub chunk_boundary : (up : Bool) (c n k w i : ℕ) → Room up c n → k + w * suc i ≤ n → past up c k % w ≡ 0
    → chunk up (past up c (k + w * i)) w % w ≡ 0
chunk_boundary true c n k w i r l e = past_boundary true c n k w i r (omega (arith, mul-suc w i)) e
chunk_boundary false c n k w i r l e =
    ap (λ (x : ℕ). x % w) (omega (arith, mul-suc w i)) ∙ past_boundary false c n k w (suc i) r l e

-- ---- from the first address of n bytes

pub cursor_room : (up : Bool) (a n : ℕ) → Room up (cursor up a n) n
cursor_room true a n = tt
cursor_room false a n = omega arith

pub cursor_start : (up : Bool) (a n : ℕ) → chunk up (cursor up a n) n ≡ a
cursor_start true a n = refl
cursor_start false a n = omega arith

-- Two cursors are as far apart as the first addresses.
pub cursor_gap : (up : Bool) (a b n x : ℕ) → (x + cursor up b n) - cursor up a n ≡ (x + b) - a
cursor_gap true a b n x = refl
cursor_gap false a b n x = omega arith
