-- Document 01, "The access lists": which accesses a call makes, in which order.
-- Forward and backward are one text, over the direction `up`. A cursor stands where impls.rs has its pointer: at the start of
-- what is left going up, past its end going down. So "the mirror, from the ends" is this text at `false`.
-- Assumes nothing.
use Rattle.std.specs.Prelude.{ℕ, zero, suc, ◌+◌, ◌*◌, ◌-◌, ◌/◌, ◌%◌, min, max, Bool, true, false, cond, ◌||◌, List, [], ◌∷◌, ◌++◌, leb, ltb, eqb}
use Rattle.model.specs.Access.{Access, load, store}

-- f 0, then f 1, and so on to f (n - 1).
unfoldable pub upto : ℕ → (ℕ → List Access) → List Access
upto zero f = []
upto (suc n) f = upto n f ++ f n

-- The cursor of the n bytes at a; where the next m bytes at a cursor begin; the cursor past them.
abbrev pub cursor : Bool → ℕ → ℕ → ℕ
cursor true a n = a
cursor false a n = a + n

abbrev pub chunk : Bool → ℕ → ℕ → ℕ
chunk true c m = c
chunk false c m = c - m

abbrev pub past : Bool → ℕ → ℕ → ℕ
past true c m = c + m
past false c m = c - m

-- Load the next `width` bytes of the source, store them at the destination; then n times so, one after the other.
abbrev pub pair : Bool → ℕ → ℕ → ℕ → List Access
pair up width d s = load width (chunk up s width) ∷ store width (chunk up d width) ∷ []

unfoldable pub pairs : Bool → ℕ → ℕ → ℕ → ℕ → List Access
pairs up width d s n = upto n (λ i. pair up width (past up d (width * i)) (past up s (width * i)))

-- **Partial loads** of the m bytes at a: the widths in the order given, each where m has that binary digit, at rising addresses.
abbrev pub made : ℕ → Access → List Access
made zero x = []
made (suc b) x = x ∷ []

unfoldable pub chunks : ℕ → ℕ → List ℕ → List Access
chunks a m [] = []
chunks a m (w ∷ ws) = made (m / w % 2) (load w a) ++ chunks (a + w * (m / w % 2)) m ws

-- A front partial load uses widths 4, 2, 1; an end partial load uses 1, 2, 4.
abbrev pub front_partial : ℕ → ℕ → List Access
front_partial a m = chunks a m (4 ∷ 2 ∷ 1 ∷ [])

abbrev pub end_partial : ℕ → ℕ → List Access
end_partial a m = chunks a m (1 ∷ 2 ∷ 4 ∷ [])

-- The first partial load of misaligned words lies at the end of its word going up, at the front going down; the last one lies
-- on the other side.
abbrev pub lead : Bool → ℕ → ℕ → List Access
lead true a m = end_partial a m
lead false a m = front_partial a m

abbrev pub trail : Bool → ℕ → ℕ → List Access
trail true a m = front_partial a m
trail false a m = end_partial a m

-- How many bytes of the cursor's word the first partial load takes, where o bytes of that word lie below the cursor.
abbrev pub near : Bool → ℕ → ℕ → ℕ
near true W o = W - o
near false W o = o

-- o > 0, and v + 1 words: the first partial load of m bytes; v times load the next whole word, store a word; then the other
-- partial load and the last store.
unfoldable pub misaligned : Bool → ℕ → ℕ → ℕ → ℕ → ℕ → List Access
misaligned up W d s m v =
    lead up (chunk up s m) m
    ++ pairs up W d (past up s m) v
    ++ trail up (chunk up (past up (past up s m) (W * v)) (W - m)) (W - m)
    ++ (store W (chunk up (past up d (W * v)) W) ∷ [])

-- The w words: o = s mod W decides.
unfoldable pub whole_words : Bool → ℕ → ℕ → ℕ → ℕ → List Access
whole_words up W d s w =
    cond (eqb (s % W) 0) (pairs up W d s w) (misaligned up W d s (near up W (s % W)) (w - 1))

-- The larger of two words and 16: below it, all goes byte by byte.
abbrev pub threshold : ℕ → ℕ
threshold W = max (2 * W) 16

-- Head: h bytes, to the next boundary of a word at the destination: (-dest) mod W going up, (dest + n) mod W going down.
abbrev pub head : Bool → ℕ → ℕ → ℕ
head true W d = (W - d % W) % W
head false W d = d % W

-- Head, words and tail: h bytes, w words from the advanced cursors, t bytes.
unfoldable pub phases : Bool → ℕ → ℕ → ℕ → ℕ → ℕ → ℕ → List Access
phases up W d s h w t =
    pairs up 1 d s h
    ++ whole_words up W (past up d h) (past up s h) w
    ++ pairs up 1 (past up (past up d h) (W * w)) (past up (past up s h) (W * w)) t

-- **Forward** (`true`) and **backward** (`false`), from the cursors d and s.
unfoldable pub run : Bool → ℕ → ℕ → ℕ → ℕ → List Access
run up W d s n =
    cond (ltb n (threshold W)) (pairs up 1 d s n)
    (phases up W d s (head up W d) ((n - head up W d) / W) ((n - head up W d) % W))

-- The same from the first addresses dest and src.
unfoldable pub along : Bool → ℕ → ℕ → ℕ → ℕ → List Access
along up W dest src n = run up W (cursor up dest n) (cursor up src n) n

-- **Copy** is forward.
abbrev pub copy_list : ℕ → ℕ → ℕ → ℕ → List Access
copy_list W dest src n = along true W dest src n

-- **Move**: forward if dest >= src + n or dest < src or n = 0, else backward.
abbrev pub upward : ℕ → ℕ → ℕ → Bool
upward dest src n = leb (src + n) dest || ltb dest src || eqb n 0

abbrev pub move_list : ℕ → ℕ → ℕ → ℕ → List Access
move_list W dest src n = along (upward dest src n) W dest src n

-- **Fill**: below the threshold, n one-byte stores upward; else the head, w stores of a word, the tail.
unfoldable pub stores : ℕ → ℕ → ℕ → List Access
stores width s n = upto n (λ i. store width (s + width * i) ∷ [])

unfoldable pub fill_phases : ℕ → ℕ → ℕ → ℕ → ℕ → List Access
fill_phases W s h w t = stores 1 s h ++ stores W (s + h) w ++ stores 1 (s + h + W * w) t

unfoldable pub fill_list : ℕ → ℕ → ℕ → List Access
fill_list W s n =
    cond (ltb n (threshold W)) (stores 1 s n) (fill_phases W s (head true W s) ((n - head true W s) / W) ((n - head true W s) % W))

-- **Compare and bcmp**: load 1 from the first, load 1 from the second, up to and with the first unequal pair, at place p; all n
-- pairs where there is none (p = n).
unfoldable pub compare_list : ℕ → ℕ → ℕ → ℕ → List Access
compare_list first second n p = upto (min (suc p) n) (λ i. load 1 (first + i) ∷ load 1 (second + i) ∷ [])

-- **String length**: load 1 upward, up to and with the first zero byte, at place p; all m bytes to the end where there is none.
unfoldable pub string_list : ℕ → ℕ → ℕ → List Access
string_list s m p = upto (min (suc p) m) (λ i. load 1 (s + i) ∷ [])
