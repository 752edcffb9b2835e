-- The partial loads are blocks of their m bytes: a front partial load from the start of a word, an end partial load to its end.
-- Their widths are the binary digits of m; an address that stays a multiple of 4 with its digits fits each width in turn.
-- Assumes nothing.
use mathlib.Core.Path.{◌≡◌, refl}
use mathlib.Core.Bool.{Bool, true, false}
use mathlib.Core.List.{[], ◌∷◌}
use Prim.Native.Nat.{ℕ, zero, suc, ◌+◌, ◌*◌, ◌-◌, ◌/◌, ◌%◌, ◌<◌}
use native.Mathlib.Nat.{mod-one, add_assoc, add-mod-mod}
use native.Mathlib.Omega.{arith}
use Rattle.model.specs.Access.{load}
use Rattle.model.specs.Fit.{Aligned}
use Rattle.model.specs.Lists.{chunk, past, made, chunks, front_partial, end_partial, lead, trail}
use Rattle.lists.specs.Sizes.{Core}
use Rattle.lists.proofs.Cores.{core_quarter, core_small, quarter}
use Rattle.lists.proofs.Cursors.{Room}
use Rattle.lists.proofs.Blocks.{Block, empty, resized, aligned, single, block_append}

-- One load, or none.
made_block : {W : ℕ} (w a b : ℕ) → b < 2 → Aligned W w a → Block W load (made b (load w a)) a (w * b)
made_block w a zero l p = resized empty refl (omega arith)
made_block w a (suc zero) l p = resized (single load a p) refl (omega arith)
made_block w a (suc (suc b)) l p = absurd (omega arith)

three : {W : ℕ} (a m u v w : ℕ) → Aligned W u a → Aligned W v (a + u * (m / u % 2))
    → Aligned W w (a + u * (m / u % 2) + v * (m / v % 2))
    → Block W load (chunks a m (u ∷ v ∷ w ∷ [])) a (u * (m / u % 2) + (v * (m / v % 2) + w * (m / w % 2)))
unfolding chunks
three a m u v w p q r =
    block_append (made_block u a (m / u % 2) (omega arith) p)
    (block_append (made_block v (a + u * (m / u % 2)) (m / v % 2) (omega arith) q)
    (block_append (made_block w (a + u * (m / u % 2) + v * (m / v % 2)) (m / w % 2) (omega arith) r) empty refl
    (omega arith)) refl refl) refl refl

-- ---- the two partial loads

digits : (m : ℕ) → m < 8 → m ≡ 4 * (m / 4 % 2) + (2 * (m / 2 % 2) + 1 * (m / 1 % 2))
digits m l = omega arith

digits_rising : (m : ℕ) → m < 8 → m ≡ 1 * (m / 1 % 2) + (2 * (m / 2 % 2) + 4 * (m / 4 % 2))
digits_rising m l = omega arith

-- Behind the lower digits of m the end of a word is a multiple of the next width.
second_up : (a m : ℕ) → (a + m) % 4 ≡ 0 → (a + 1 * (m / 1 % 2)) % 2 ≡ 0
second_up a m e = omega arith

lower_digits : (m : ℕ) → 1 * (m / 1 % 2) + 2 * (m / 2 % 2) ≡ m % 4
lower_digits m = omega arith

third_up : (a m : ℕ) → (a + m) % 4 ≡ 0 → (a + 1 * (m / 1 % 2) + 2 * (m / 2 % 2)) % 4 ≡ 0
third_up a m e = rw (add_assoc a (1 * (m / 1 % 2)) (2 * (m / 2 % 2)), lower_digits m, add-mod-mod a m 4) e

front_block : {W : ℕ} (a m : ℕ) → W % 4 ≡ 0 → m < 8 → a % 4 ≡ 0 → Block W load (front_partial a m) a m
front_block {W} a m c l e =
    resized
    (three a m 4 2 1 (aligned c e) (aligned (omega arith) (omega arith)) (aligned (mod-one W) (mod-one _)))
    refl (digits m l)

end_block : {W : ℕ} (a m : ℕ) → W % 4 ≡ 0 → m < 8 → (a + m) % 4 ≡ 0 → Block W load (end_partial a m) a m
end_block {W} a m c l e =
    resized
    (three a m 1 2 4 (aligned (mod-one W) (mod-one a)) (aligned (omega arith) (second_up a m e)) (aligned c (third_up a m e)))
    refl (digits_rising m l)

pub lead_block : {W : ℕ} → Core W → (up : Bool) (c m : ℕ) → m < W → past up c m % W ≡ 0
    → Block W load (lead up (chunk up c m) m) (chunk up c m) m
lead_block p true c m l e = end_block c m (core_quarter p) (omega (arith, core_small p)) (quarter p (c + m) e)
lead_block p false c m l e = front_block (c - m) m (core_quarter p) (omega (arith, core_small p)) (quarter p (c - m) e)

pub trail_block : {W : ℕ} → Core W → (up : Bool) (c m : ℕ) → m < W → Room up c m → c % W ≡ 0
    → Block W load (trail up (chunk up c m) m) (chunk up c m) m
trail_block p true c m l r e = front_block c m (core_quarter p) (omega (arith, core_small p)) (quarter p c e)
trail_block p false c m l r e =
    end_block (c - m) m (core_quarter p) (omega (arith, core_small p)) (omega (arith, quarter p c e))
