-- The list of a fill is one block of stores.
-- Assumes nothing.
use mathlib.Core.Path.{◌≡◌, refl, ◌∙◌}
use mathlib.Core.Bool.{Bool, true, false, cond}
use Prim.Native.Nat.{ℕ, zero, suc, ◌+◌, ◌*◌, ◌-◌, ◌/◌, ◌%◌}
use native.Mathlib.Nat.{mod-one, mod_self, mul-suc, mul-zero, add-mul-mod_self_left}
use native.Mathlib.Omega.{arith}
use lib.Dec.{ltb}
use borrow.Author.Tests.{ltb-false}
use Rattle.model.specs.Access.{store}
use Rattle.model.specs.Lists.{upto, stores, threshold, head, fill_phases, fill_list}
use Rattle.lists.specs.Sizes.{Core}
use Rattle.lists.proofs.Blocks.{Block, empty, aligned, single, resized, block_append}
use Rattle.lists.proofs.Cores.{split}

stores_block : {W : ℕ} (w a n : ℕ) → W % w ≡ 0 → a % w ≡ 0 → Block W store (stores w a n) a (w * n)
unfolding stores upto
stores_block w a zero p q = resized empty refl (mul-zero w)
stores_block w a (suc n) p q =
    block_append (stores_block w a n p q) (single store (a + w * n) (aligned p (add-mul-mod_self_left a w n ∙ q))) refl
    (mul-suc w n)

bytes_block : {W : ℕ} (a n : ℕ) → Block W store (stores 1 a n) a n
bytes_block {W} a n = resized (stores_block 1 a n (mod-one W) (mod-one a)) refl (omega arith)

pub fill_block : {W : ℕ} → Core W → (s n : ℕ) → Block W store (fill_list W s n) s n
unfolding fill_list fill_phases
fill_block {W} p s n = go (ltb n (threshold W)) refl
  where
    h : ℕ
    h = head true W s

    go : (b : Bool) → ltb n (threshold W) ≡ b
        → Block W store (cond b (stores 1 s n) (fill_phases W s h ((n - h) / W) ((n - h) % W))) s n
    go true e = bytes_block s n
    go false e =
        let parts = split p true s n (ltb-false n (threshold W) e) in
        block_append (block_append (bytes_block s h) (stores_block W (s + h) ((n - h) / W) (mod_self W) parts.before.boundary)
        refl refl) (bytes_block (s + h + W * ((n - h) / W)) ((n - h) % W)) (omega arith) parts.sum
