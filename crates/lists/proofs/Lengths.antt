-- How long each part of a list is, and the whole, exactly, from addresses and length alone.
-- Assumes nothing.
use mathlib.Core.Path.{◌≡◌, refl, sym, ap, ap₂, ◌∙◌}
use mathlib.Core.Bool.{Bool, true, false, cond}
use mathlib.Core.List.{List, [], ◌∷◌, ◌++◌}
use Prim.Native.Nat.{ℕ, zero, suc, ◌+◌, ◌*◌, ◌-◌, ◌/◌, ◌%◌, ◌<◌, ◌≤◌, min}
use native.Mathlib.Nat.{mod-lt, mul-suc, mul-zero}
use native.Mathlib.Omega.{arith}
use lib.Dec.{ltb, eqb}
use lib.ListN.{length, length-append}
use Rattle.model.specs.Access.{Access, load, store}
use Rattle.model.specs.Lists.{upto, cursor, chunk, past, pairs, made, chunks, front_partial, end_partial, lead, trail, near, misaligned, whole_words, threshold, head, phases, run, along, stores, fill_phases, fill_list, compare_list, string_list}
use Rattle.lists.specs.Sizes.{Core, ones, word_accesses, run_accesses, accesses, fill_accesses}
use Rattle.lists.proofs.Cores.{core_some}

-- ---- the parts

pub upto-length : (c n : ℕ) (f : ℕ → List Access) → ((i : ℕ) → length (f i) ≡ c) → length (upto n f) ≡ c * n
unfolding upto
upto-length c zero f h = sym (mul-zero c)
upto-length c (suc n) f h =
    length-append (upto n f) (f n) ∙ ap₂ (λ (x y : ℕ). x + y) (upto-length c n f h) (h n) ∙ sym (mul-suc c n)

-- n times load and store: two accesses each.
pub pairs-length : (up : Bool) (w d s n : ℕ) → length (pairs up w d s n) ≡ 2 * n
unfolding pairs
pairs-length up w d s n = upto-length 2 n _ (λ i. refl)

made-length : (b : ℕ) (x : Access) → b < 2 → length (made b x) ≡ b
made-length zero x l = refl
made-length (suc zero) x l = refl
made-length (suc (suc b)) x l = absurd (omega arith)

abbrev digits_of : ℕ → List ℕ → ℕ
digits_of m [] = 0
digits_of m (w ∷ ws) = m / w % 2 + digits_of m ws

chunks-length : (a m : ℕ) (ws : List ℕ) → length (chunks a m ws) ≡ digits_of m ws
unfolding chunks
chunks-length a m [] = refl
chunks-length a m (w ∷ ws) =
    length-append (made (m / w % 2) (load w a)) (chunks (a + w * (m / w % 2)) m ws)
    ∙ ap₂ (λ (x y : ℕ). x + y) (made-length (m / w % 2) (load w a) (omega arith)) (chunks-length (a + w * (m / w % 2)) m ws)

front_length : (a m : ℕ) → length (front_partial a m) ≡ ones m
unfolding ones
front_length a m = omega (arith, chunks-length a m (4 ∷ 2 ∷ 1 ∷ []))

end_length : (a m : ℕ) → length (end_partial a m) ≡ ones m
unfolding ones
end_length a m = omega (arith, chunks-length a m (1 ∷ 2 ∷ 4 ∷ []))

-- A partial load: one access for each binary digit 1 of its bytes.
pub lead-length : (up : Bool) (a m : ℕ) → length (lead up a m) ≡ ones m
lead-length true a m = end_length a m
lead-length false a m = front_length a m

pub trail-length : (up : Bool) (a m : ℕ) → length (trail up a m) ≡ ones m
trail-length true a m = front_length a m
trail-length false a m = end_length a m

-- And so three at most.
ones_few : (m : ℕ) → ones m ≤ 3
unfolding ones
ones_few m = omega arith

pub lead_few : (up : Bool) (a m : ℕ) → length (lead up a m) ≤ 3
lead_few up a m = omega (arith, lead-length up a m, ones_few m)

pub trail_few : (up : Bool) (a m : ℕ) → length (trail up a m) ≤ 3
trail_few up a m = omega (arith, trail-length up a m, ones_few m)

-- Misaligned words: both partial loads, two accesses for each word between them, the last store.
pub misaligned-length : (up : Bool) (W d s m v : ℕ)
    → length (misaligned up W d s m v) ≡ ones m + 2 * v + ones (W - m) + 1
unfolding misaligned
misaligned-length up W d s m v =
    let first = lead up (chunk up s m) m in
    let words = pairs up W d (past up s m) v in
    let last = trail up (chunk up (past up (past up s m) (W * v)) (W - m)) (W - m) in
    omega (
      arith,
      length-append (first ++ words ++ last) (store W (chunk up (past up d (W * v)) W) ∷ []),
      length-append (first ++ words) last,
      length-append first words,
      lead-length up (chunk up s m) m,
      pairs-length up W d (past up s m) v,
      trail-length up (chunk up (past up (past up s m) (W * v)) (W - m)) (W - m),
    )

near-ones : (up : Bool) (W o v : ℕ) → o < W
    → ones (near up W o) + 2 * v + ones (W - near up W o) + 1 ≡ ones o + ones (W - o) + 2 * v + 1
near-ones true W o v l = let e : W - (W - o) ≡ o = omega arith in omega (arith, ap ones e)
near-ones false W o v l = omega arith

-- The words, by the place of the source in its word.
pub words_length : (up : Bool) (W d s w : ℕ) → 0 < W → length (whole_words up W d s w) ≡ word_accesses W (s % W) w
unfolding whole_words word_accesses
words_length up W d s w p = go (eqb (s % W) 0)
  where
    m : ℕ
    m = near up W (s % W)

    go : (b : Bool) → length (cond b (pairs up W d s w) (misaligned up W d s m (w - 1)))
        ≡ cond b (2 * w) (ones (s % W) + ones (W - s % W) + 2 * (w - 1) + 1)
    go true = pairs-length up W d s w
    go false = misaligned-length up W d s m (w - 1) ∙ near-ones up W (s % W) (w - 1) (mod-lt s p)

-- Head, words and tail.
pub phases-length : (up : Bool) (W d s h w t : ℕ) → 0 < W
    → length (phases up W d s h w t) ≡ 2 * h + word_accesses W (past up s h % W) w + 2 * t
unfolding phases
phases-length up W d s h w t p =
    let start = pairs up 1 d s h in
    let words = whole_words up W (past up d h) (past up s h) w in
    let d' = past up (past up d h) (W * w) in
    let s' = past up (past up s h) (W * w) in
    omega (
      arith,
      length-append (start ++ words) (pairs up 1 d' s' t),
      length-append start words,
      pairs-length up 1 d s h,
      words_length up W (past up d h) (past up s h) w p,
      pairs-length up 1 d' s' t,
    )

-- The whole list of a copy or move, as a function of addresses and length.
pub along-length : {W : ℕ} → Core W → (up : Bool) (dest src n : ℕ)
    → length (along up W dest src n) ≡ accesses up W dest src n
unfolding along run accesses run_accesses
along-length {W} p up dest src n = go (ltb n (threshold W))
  where
    d : ℕ
    d = cursor up dest n

    s : ℕ
    s = cursor up src n

    h : ℕ
    h = head up W d

    go : (b : Bool) → length (cond b (pairs up 1 d s n) (phases up W d s h ((n - h) / W) ((n - h) % W)))
        ≡ cond b (2 * n) (2 * h + word_accesses W (past up s h % W) ((n - h) / W) + 2 * ((n - h) % W))
    go true = pairs-length up 1 d s n
    go false = phases-length up W d s h ((n - h) / W) ((n - h) % W) (core_some p)

-- n stores.
pub stores-length : (w s n : ℕ) → length (stores w s n) ≡ n
unfolding stores
stores-length w s n = upto-length 1 n _ (λ i. refl) ∙ omega arith

-- The whole list of a fill.
pub fill_length : (W s n : ℕ) → length (fill_list W s n) ≡ fill_accesses W s n
unfolding fill_list fill_phases fill_accesses
fill_length W s n = go (ltb n (threshold W))
  where
    h : ℕ
    h = head true W s

    w : ℕ
    w = (n - h) / W

    t : ℕ
    t = (n - h) % W

    go : (b : Bool) → length (cond b (stores 1 s n) (fill_phases W s h w t)) ≡ cond b n (h + w + t)
    go true = stores-length 1 s n
    go false =
        omega (
          arith,
          length-append (stores 1 s h ++ stores W (s + h) w) (stores 1 (s + h + W * w) t),
          length-append (stores 1 s h) (stores W (s + h) w),
          stores-length 1 s h,
          stores-length W (s + h) w,
          stores-length 1 (s + h + W * w) t,
        )

-- Compare: two loads for each pair up to and with the first unequal one.
pub compare_length : (a b n p : ℕ) → length (compare_list a b n p) ≡ 2 * min (suc p) n
unfolding compare_list
compare_length a b n p = upto-length 2 (min (suc p) n) _ (λ i. refl)

-- String length: one load for each byte up to and with the first zero.
pub string_length : (s m p : ℕ) → length (string_list s m p) ≡ min (suc p) m
unfolding string_list
string_length s m p = upto-length 1 (min (suc p) m) _ (λ i. refl) ∙ omega arith
