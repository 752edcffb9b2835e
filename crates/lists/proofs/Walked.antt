-- The lists of document 01 are walks: the only proof that goes through their text. Pairs by induction on their number; the rest
-- by putting parts in a row.
-- Assumes nothing.
use mathlib.Core.Path.{◌≡◌, refl, ap}
use mathlib.Core.Bool.{Bool, true, false, cond}
use mathlib.Core.List.{List, [], ◌∷◌}
use Prim.Native.Nat.{ℕ, zero, suc, ◌+◌, ◌*◌, ◌-◌, ◌/◌, ◌%◌, ◌<◌, ◌≤◌}
use native.Mathlib.Nat.{mod-one, mod_self, mul-suc}
use native.Mathlib.Omega.{arith}
use lib.Dec.{eqb, ltb}
use borrow.Author.Tests.{eqb-true, eqb-false, ltb-false}
use Rattle.model.specs.Access.{Access, load, store}
use Rattle.model.specs.Lists.{upto, cursor, chunk, past, pair, pairs, near, misaligned, whole_words, threshold, head, phases, run, along}
use Rattle.lists.specs.Sizes.{Core}
use Rattle.lists.proofs.Blocks.{Block, aligned, single}
use Rattle.lists.proofs.Cores.{Near, first-near, first_some, split}
use Rattle.lists.proofs.Cursors.{Room, room_past, past_none, past-past, past_boundary, chunk_boundary, cursor_room}
use Rattle.lists.proofs.Partial.{lead_block, trail_block}
use Rattle.lists.proofs.Walks.{Walk, stays, loads, stored, both}

walk_to : {W : ℕ} {up : Bool} {d s n : ℕ} {xs : List Access} {k l i j i' j' : ℕ} → Walk W up d s n xs k l i j → i' ≡ i → j' ≡ j
    → Walk W up d s n xs k l i' j'
walk_to v p q = rw (p, q) v

module _ (W : ℕ) (up : Bool) (d s n : ℕ) (room-d : Room up d n) (room-s : Room up s n) where
  loads_walk : {xs : List Access} (k l m : ℕ) → Block W load xs (chunk up (past up s l) m) m → k ≤ l → l + m ≤ n
      → Walk W up d s n xs k l k (l + m)
  loads_walk k l m b i j = loads b i j

  -- The store of the w bytes after k, where a boundary of the width is m widths behind.
  store_walk : (w k l m : ℕ) → W % w ≡ 0 → past up d k % w ≡ 0 → k + w * m + w ≤ l → l ≤ n
      → Walk W up d s n (store w (chunk up (past up d (k + w * m)) w) ∷ []) (k + w * m) l (k + w * m + w) l
  store_walk w k l m c p i j =
      stored (aligned c (chunk_boundary up d n k w m room-d (omega (arith, mul-suc w m)) p)) i j

  -- ---- pairs

  -- The turn after m pairs of the width w.
  turn_walk : (w k l m : ℕ) → W % w ≡ 0 → past up d k % w ≡ 0 → past up s l % w ≡ 0 → k ≤ l → l + w * suc m ≤ n
      → Walk W up d s n (pair up w (past up (past up d k) (w * m)) (past up (past up s l) (w * m))) (k + w * m) (l + w * m)
      (k + w * m + w) (l + w * m + w)
  turn_walk w k l m c p q i j =
      let more : w * suc m ≡ w * m + w = mul-suc w m in
      let from = single load (chunk up (past up s (l + w * m)) w) (aligned c (chunk_boundary up s n l w m room-s j q)) in
      rw (past-past up d k (w * m), past-past up s l (w * m))
      (both (loads_walk (k + w * m) (l + w * m) w from (omega arith) (omega arith))
      (store_walk w k (l + w * m + w) m c p (omega arith) (omega arith)))

  pairs_walk : (w k l m : ℕ) → W % w ≡ 0 → past up d k % w ≡ 0 → past up s l % w ≡ 0 → k ≤ l → l + w * m ≤ n
      → Walk W up d s n (pairs up w (past up d k) (past up s l) m) k l (k + w * m) (l + w * m)
  unfolding pairs upto
  pairs_walk w k l zero c p q i j = walk_to stays (omega arith) (omega arith)
  pairs_walk w k l (suc m) c p q i j =
      walk_to (both (pairs_walk w k l m c p q i (omega (arith, mul-suc w m))) (turn_walk w k l m c p q i j))
      (omega (arith, mul-suc w m)) (omega (arith, mul-suc w m))

  bytes_walk : (k m : ℕ) → k + m ≤ n → Walk W up d s n (pairs up 1 (past up d k) (past up s k) m) k k (k + m) (k + m)
  bytes_walk k m j =
      walk_to (pairs_walk 1 k k m (mod-one W) (mod-one (past up d k)) (mod-one (past up s k)) (omega arith) (omega arith))
      (omega arith) (omega arith)

  start_walk : (m : ℕ) → m ≤ n → Walk W up d s n (pairs up 1 d s m) 0 0 m m
  start_walk m j =
      walk_to (rw (past_none up d, past_none up s) at (bytes_walk 0 m (omega arith))) (omega arith) (omega arith)

  -- ---- words

  misaligned_walk : Core W → (k m v : ℕ) → 0 < m → Near up W (past up s k) m → past up d k % W ≡ 0 → k + W * suc v ≤ n
      → Walk W up d s n (misaligned up W (past up d k) (past up s k) m v) k k (k + W * suc v) (k + W * suc v)
  unfolding misaligned
  misaligned_walk p k m v i e q j =
      let small : m < W = e.small in
      let more : W * suc v ≡ W * v + W = mul-suc W v in
      let boundary : past up s (k + m) % W ≡ 0 = rw (past-past up s k m) at e.boundary in
      let first = loads_walk k k m (lead_block p up (past up s k) m small e.boundary) (omega arith) (omega arith) in
      let words = pairs_walk W k (k + m) v (mod_self W) q boundary (omega arith) (omega arith) in
      let room = room_past up s (k + m + W * v) (W - m) n room-s (omega arith) in
      let whole = past_boundary up s n (k + m) W v room-s (omega arith) boundary in
      let last = loads_walk (k + W * v) (k + m + W * v) (W - m)
      (trail_block p up (past up s (k + m + W * v)) (W - m) (omega arith) room whole) (omega arith) (omega arith) in
      let end = store_walk W k (k + m + W * v + (W - m)) v (mod_self W) q (omega arith) (omega arith) in
      rw (past-past up s k m, past-past up s (k + m) (W * v), past-past up d k (W * v))
      (walk_to (both (both (both first words) last) end) (omega arith) (omega arith))

  words_walk : Core W → (k w : ℕ) → 0 < w → past up d k % W ≡ 0 → k + W * w ≤ n
      → Walk W up d s n (whole_words up W (past up d k) (past up s k) w) k k (k + W * w) (k + W * w)
  unfolding whole_words
  words_walk p k w i q j = go (eqb (past up s k % W) 0) refl
    where
      o : ℕ
      o = past up s k % W

      whole : W * w ≡ W * suc (w - 1)
      whole = ap (λ (x : ℕ). W * x) (omega arith)

      go : (b : Bool) → eqb o 0 ≡ b
          → Walk W up d s n
          (cond b (pairs up W (past up d k) (past up s k) w) (misaligned up W (past up d k) (past up s k) (near up W o) (w - 1)))
          k k (k + W * w) (k + W * w)
      go true e = pairs_walk W k k w (mod_self W) q (eqb-true o 0 e) (omega arith) j
      go false e =
          walk_to (misaligned_walk p k (near up W o) (w - 1) (first_some p up (past up s k) (eqb-false o 0 e))
          (first-near p up (past up s k) (eqb-false o 0 e)) q (omega (arith, whole)))
          (omega (arith, whole)) (omega (arith, whole))

  -- ---- the whole

  phases_walk : Core W → (h w t : ℕ) → 0 < w → past up d h % W ≡ 0 → n ≡ h + W * w + t
      → Walk W up d s n (phases up W d s h w t) 0 0 n n
  unfolding phases
  phases_walk p h w t i q j =
      walk_to (both (both (start_walk h (omega arith)) (words_walk p h w i q (omega arith)))
      (rw (past-past up d h (W * w), past-past up s h (W * w)) (bytes_walk (h + W * w) t (omega arith))))
      j j

  run_walk : Core W → Walk W up d s n (run up W d s n) 0 0 n n
  unfolding run
  run_walk p = go (ltb n (threshold W)) refl
    where
      h : ℕ
      h = head up W d

      go : (b : Bool) → ltb n (threshold W) ≡ b
          → Walk W up d s n (cond b (pairs up 1 d s n) (phases up W d s h ((n - h) / W) ((n - h) % W))) 0 0 n n
      go true e = start_walk n (omega arith)
      go false e =
          let parts = split p up d n (ltb-false n (threshold W) e) in
          phases_walk p h ((n - h) / W) ((n - h) % W) parts.words parts.before.boundary parts.sum

-- Copies and moves, in either direction.
pub along_walk : {W : ℕ} → Core W → (up : Bool) (dest src n : ℕ)
    → Walk W up (cursor up dest n) (cursor up src n) n (along up W dest src n) 0 0 n n
unfolding along
along_walk {W} p up dest src n =
    run_walk W up (cursor up dest n) (cursor up src n) n (cursor_room up dest n) (cursor_room up src n) p
