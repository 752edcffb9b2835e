-- "Four times its length is at most n + 110 for n of 16 or more", twice at most n + 22 on the 4-byte core; and no list has more
-- than two accesses for each byte. From the exact lengths: the words take two accesses each and a few for the partial loads.
-- Assumes nothing.
use mathlib.Core.Path.{◌≡◌}
use mathlib.Core.Bool.{Bool, true, false, cond}
use Prim.Native.Nat.{ℕ, suc, ◌+◌, ◌*◌, ◌-◌, ◌/◌, ◌%◌, ◌<◌, ◌≤◌}
use native.Mathlib.Nat.{mod-lt, min-le_right}
use native.Mathlib.Decide.{dec_lt}
use native.Mathlib.Omega.{arith}
use lib.Dec.{leb, eqb, leb→le}
use lib.ListN.{length}
use borrow.Author.Tests.{lt-ltb, le-ltb}
use Rattle.model.specs.Lists.{cursor, past, threshold, head, whole_words, along, fill_list, compare_list, string_list}
use Rattle.model.proofs.Widths.{below}
use Rattle.lists.specs.Sizes.{Core, eight_byte, four_byte, ones, word_accesses, run_accesses, accesses, fill_accesses, slack}
use Rattle.lists.proofs.Cores.{core_some, split}
use Rattle.lists.proofs.Lengths.{words_length, along-length, fill_length, compare_length, string_length}

-- How many accesses w words of a misaligned source take beyond two for each word.
extra : {W : ℕ} → Core W → ℕ
extra eight_byte = 3
extra four_byte = 2

partials_bound : {W : ℕ} (p : Core W) (o : ℕ) → o < W → ones o + ones (W - o) ≤ 1 + extra p
unfolding extra ones
partials_bound eight_byte o l = leb→le (ones o + ones (8 - o)) 4 (below (λ o. leb (ones o + ones (8 - o)) 4) 8 tt o l)
partials_bound four_byte o l = leb→le (ones o + ones (4 - o)) 3 (below (λ o. leb (ones o + ones (4 - o)) 3) 4 tt o l)

words_bound : {W : ℕ} (p : Core W) (o w : ℕ) → o < W → 0 < w → word_accesses W o w ≤ 2 * w + extra p
unfolding word_accesses
words_bound {W} p o w l i = go (eqb o 0)
  where
    go : (b : Bool) → cond b (2 * w) (ones o + ones (W - o) + 2 * (w - 1) + 1) ≤ 2 * w + extra p
    go true = omega arith
    go false = omega (arith, partials_bound p o l)

-- From the threshold on: head, words and tail.
long_length : {W : ℕ} (p : Core W) (up : Bool) (dest src n : ℕ) → threshold W ≤ n
    → length (along up W dest src n)
    ≤ 2 * head up W (cursor up dest n) + (2 * ((n - head up W (cursor up dest n)) / W) + extra p)
    + 2 * ((n - head up W (cursor up dest n)) % W)
unfolding accesses run_accesses
long_length {W} p up dest src n l =
    let h = head up W (cursor up dest n) in
    let o = past up (cursor up src n) h % W in
    let w = (n - h) / W in
    let parts = split p up (cursor up dest n) n l in
    let exact : length (along up W dest src n) ≡ 2 * h + word_accesses W o w + 2 * ((n - h) % W) =
    rw (along-length p up dest src n, le-ltb n (threshold W) l) in
    omega (arith, words_bound p o w (mod-lt (past up (cursor up src n) h) (core_some p)) parts.words)

-- "Four times its length is at most n + 110 for n of 16 or more"; twice, n + 22, on the 4-byte core.
pub along_bounded : {W : ℕ} (p : Core W) (up : Bool) (dest src n : ℕ) → 16 ≤ n
    → W / 2 * length (along up W dest src n) ≤ n + slack p
unfolding extra
along_bounded eight_byte up dest src n l =
    let parts = split eight_byte up (cursor up dest n) n l in
    omega (arith, long_length eight_byte up dest src n l)
along_bounded four_byte up dest src n l =
    let parts = split four_byte up (cursor up dest n) n l in
    omega (arith, long_length four_byte up dest src n l)

-- Words are fewer than their bytes, however misaligned.
words_few : {W : ℕ} (p : Core W) (w : ℕ) → 0 < w → 2 * w + extra p ≤ 2 * (W * w)
unfolding extra
words_few eight_byte w l = omega arith
words_few four_byte w l = omega arith

pub whole_words_few : {W : ℕ} → Core W → (up : Bool) (d s w : ℕ) → 0 < w → length (whole_words up W d s w) ≤ 2 * (W * w)
whole_words_few {W} p up d s w l =
    omega (arith, words_length up W d s w (core_some p), words_bound p (s % W) w (mod-lt s (core_some p)) l, words_few p w l)

-- Every list of a copy or move has at most 2 n accesses.
pub along_few : {W : ℕ} → Core W → (up : Bool) (dest src n : ℕ) → length (along up W dest src n) ≤ 2 * n
unfolding accesses run_accesses
along_few {W} p up dest src n = go (dec_lt n (threshold W))
  where
    go : Dec (n < threshold W) → length (along up W dest src n) ≤ 2 * n
    go (yes l) =
        let exact : length (along up W dest src n) ≡ 2 * n = rw (along-length p up dest src n, lt-ltb n (threshold W) l) in
        omega arith
    go (no l) =
        let parts = split p up (cursor up dest n) n (omega arith) in
        omega (arith, long_length p up dest src n (omega arith), words_few p ((n - head up W (cursor up dest n)) / W) parts.words)

-- Every list of a fill has at most n.
pub fill_few : {W : ℕ} → Core W → (s n : ℕ) → length (fill_list W s n) ≤ n
unfolding fill_accesses
fill_few {W} p s n = go (dec_lt n (threshold W))
  where
    w : ℕ
    w = (n - head true W s) / W

    go : Dec (n < threshold W) → length (fill_list W s n) ≤ n
    go (yes l) =
        let exact : length (fill_list W s n) ≡ n = rw (fill_length W s n, lt-ltb n (threshold W) l) in
        omega arith
    go (no l) =
        let parts = split p true s n (omega arith) in
        let exact : length (fill_list W s n) ≡ head true W s + w + (n - head true W s) % W =
        rw (fill_length W s n, le-ltb n (threshold W) (omega arith)) in
        omega (arith, words_few p w parts.words)

-- Compare makes at most 2 n, string length at most one for each byte to the end.
pub compare_few : (a b n p : ℕ) → length (compare_list a b n p) ≤ 2 * n
compare_few a b n p = omega (arith, compare_length a b n p, min-le_right (suc p) n)

pub string_few : (s m p : ℕ) → length (string_list s m p) ≤ m
string_few s m p = omega (arith, string_length s m p, min-le_right (suc p) m)
