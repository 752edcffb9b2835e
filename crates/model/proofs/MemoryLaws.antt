-- The lent memory's laws: what `over` gives inside and outside its range; the number that some bytes of a word make, and what a
-- changed word changes; that the words with given bytes have these bytes, and that packing what is viewed gives the words back.
-- Assumes nothing.
use mathlib.Core.Path.{◌≡◌, refl, sym, ap, ◌∙◌, fun_ext}
use mathlib.Core.Logic.{⊎_elim}
use mathlib.Core.List.{List, [], ◌∷◌, ◌++◌}
use Prim.Native.Nat.{ℕ, zero, suc, ◌+◌, ◌*◌, ◌/◌, ◌%◌, ◌^◌, ◌<◌, ◌≤◌}
use native.Mathlib.Nat.{mul-add-div, div-eq_of_lt, mul-add-mod_self_left, mod-eq_of_lt, add-zero, add_assoc, div-one, div-add-mod, mod-lt, div-lt_iff_lt-mul, le-div_iff_mul-le, mul_comm, suc-mul, eq-or-lt_of_le, le_of_suc-le-suc}
use native.Mathlib.Decide.{dec_lt}
use native.Mathlib.Omega.{arith}
use lib.ListN.{length, get_or, set, drop, length-append, get_or-append}
use lib.Seq.{ext_get_or, get_or_at, get_or-drop, get_or-set_same, get_or-set_other}
use borrow.Author.Tests.{le-leb, lt-leb, lt-ltb, le-ltb}
use Rattle.model.specs.Memory.{byte, view, read_le, packed, over, laid}
use Rattle.model.proofs.ByteLaws.{byte_lt, read_le-byte, read_le_bytes, read_le_cong}

-- ---- over

pub over_in : (a n : ℕ) (g f : ℕ → ℕ) (x : ℕ) → a ≤ x → x < a + n → over a n g f x ≡ g x
unfolding over
over_in a n g f x h l = simp (le-leb a x h, lt-ltb x (a + n) l)

pub over_below : (a n : ℕ) (g f : ℕ → ℕ) (x : ℕ) → x < a → over a n g f x ≡ f x
unfolding over
over_below a n g f x h = simp (lt-leb a x h)

pub over_above : (a n : ℕ) (g f : ℕ → ℕ) (x : ℕ) → a + n ≤ x → over a n g f x ≡ f x
unfolding over
over_above a n g f x h = simp (le-leb a x (omega arith), le-ltb x (a + n) h)

-- Where an address lies: before the n addresses from a, among them or past them.
pub data Place (a n x : ℕ) : Type 0 where
  below : x < a → Place a n x
  inside : a ≤ x → x < a + n → Place a n x
  above : a + n ≤ x → Place a n x

pub place : (a n x : ℕ) → Place a n x
place a n x = go (dec_lt x a) (dec_lt x (a + n))
  where
    go : Dec (x < a) → Dec (x < a + n) → Place a n x
    go (yes l) q = below l
    go (no l) (yes m) = inside (omega arith) m
    go (no l) (no m) = above (omega arith)

-- Only what is put inside the range plays a part.
pub over_cong : (a n : ℕ) (g g' f : ℕ → ℕ) → ((x : ℕ) → a ≤ x → x < a + n → g x ≡ g' x)
    → over a n g f ≡ over a n g' f
over_cong a n g g' f h = fun_ext (λ x. go x (place a n x))
  where
    go : (x : ℕ) → Place a n x → over a n g f x ≡ over a n g' f x
    go x (below l) = over_below a n g f x l ∙ sym (over_below a n g' f x l)
    go x (inside l m) = over_in a n g f x l m ∙ h x l m ∙ sym (over_in a n g' f x l m)
    go x (above l) = over_above a n g f x l ∙ sym (over_above a n g' f x l)

-- ---- the bytes of words

pub view_lt : (W : ℕ) (ws : List ℕ) (a : ℕ) → view W ws a < 256
unfolding view
view_lt W ws a = byte_lt (get_or ws (a / W) 0) (a % W)

pub view_word : (W : ℕ) (ws : List ℕ) (i j : ℕ) → j < W → view W ws (W * i + j) ≡ byte (get_or ws i 0) j
unfolding view
view_word W ws i j l = rw (quotient, remainder)
  where
    quotient : (W * i + j) / W ≡ i
    quotient = mul-add-div (omega arith) i j ∙ ap (λ (y : ℕ). i + y) (div-eq_of_lt l) ∙ add-zero i

    remainder : (W * i + j) % W ≡ j
    remainder = mul-add-mod_self_left W i j ∙ mod-eq_of_lt l

-- The bytes of the words from word i on.
pub view-drop : (W : ℕ) → 0 < W → (ws : List ℕ) (i a : ℕ) → view W (drop i ws) a ≡ view W ws (W * i + a)
unfolding view
view-drop W p ws i a = rw (get_or-drop i ws (a / W) 0, mul-add-div p i a, mul-add-mod_self_left W i a)

-- The n bytes from address a on are n bytes of word i.
pub read_le-view : (W : ℕ) (ws : List ℕ) (i o n : ℕ) {a : ℕ} → a ≡ W * i + o → o + n ≤ W
    → read_le (view W ws) a n ≡ read_le (byte (get_or ws i 0)) o n
read_le-view W ws i o n e l =
    rw e
    (read_le_cong (view W ws) (byte (get_or ws i 0)) (W * i + o) o n
    (λ j m. ap (view W ws) (add_assoc (W * i) o j) ∙ view_word W ws i (o + j) (omega arith)))

-- A word that has changed at n of its bytes changes the memory at their n addresses.
pub view-set : (W : ℕ) → 0 < W → (ws : List ℕ) (i o n v r : ℕ) {a : ℕ} → a ≡ W * i + o → o + n ≤ W → i < length ws
    → byte r ≡ over o n (laid v o) (byte (get_or ws i 0)) → view W (set ws i r) ≡ over a n (laid v a) (view W ws)
unfolding view
view-set W z ws i o n v r {a} e l lent h = fun_ext (λ x. go x (dec_lt (x / W) i) (dec_lt i (x / W)))
  where
    here : (x : ℕ) → x / W ≡ i → Place o n (x % W)
        → over o n (laid v o) (byte (get_or ws i 0)) (x % W) ≡ over a n (laid v a) (view W ws) x
    here x d p = go p
      where
        at : x ≡ W * i + x % W
        at = sym (div-add-mod x W) ∙ ap (λ (q : ℕ). W * q + x % W) d

        kept : byte (get_or ws i 0) (x % W) ≡ view W ws x
        kept = ap (λ (q : ℕ). byte (get_or ws q 0) (x % W)) (sym d)

        go : Place o n (x % W)
            → over o n (laid v o) (byte (get_or ws i 0)) (x % W) ≡ over a n (laid v a) (view W ws) x
        go (below k) =
            over_below o n (laid v o) (byte (get_or ws i 0)) (x % W) k ∙ kept
            ∙ sym (over_below a n (laid v a) (view W ws) x (omega (arith, at)))
        go (inside k m) =
            over_in o n (laid v o) (byte (get_or ws i 0)) (x % W) k m ∙ ap (byte v) (omega (arith, at))
            ∙ sym (over_in a n (laid v a) (view W ws) x (omega (arith, at)) (omega (arith, at)))
        go (above k) =
            over_above o n (laid v o) (byte (get_or ws i 0)) (x % W) k ∙ kept
            ∙ sym (over_above a n (laid v a) (view W ws) x (omega (arith, at)))

    other : (x : ℕ) → (x / W ≡ i → ⊥) → view W (set ws i r) x ≡ view W ws x
    other x d = ap (λ (w : ℕ). byte w (x % W)) (get_or-set_other ws i (x / W) r 0 d)

    go : (x : ℕ) → Dec (x / W < i) → Dec (i < x / W) → view W (set ws i r) x ≡ over a n (laid v a) (view W ws) x
    go x (yes p) q =
        other x (λ d. omega arith)
        ∙ sym (over_below a n (laid v a) (view W ws) x (omega (arith, (div-lt_iff_lt-mul z).0 p, mul_comm i W)))
    go x (no p) (yes q) =
        other x (λ d. omega arith)
        ∙ sym (over_above a n (laid v a) (view W ws) x (omega (arith, (le-div_iff_mul-le z).0 q, suc-mul i W, mul_comm i W)))
    go x (no p) (no q) =
        let d : x / W ≡ i = omega arith in
        ap (λ (j : ℕ). byte (get_or (set ws i r) j 0) (x % W)) d
        ∙ ap (λ (w : ℕ). byte w (x % W)) (get_or-set_same ws i r 0 lent)
        ∙ ap (λ (f : ℕ → ℕ). f (x % W)) h ∙ here x d (place o n (x % W))

-- ---- packed words

pub length-packed : (W k : ℕ) (f : ℕ → ℕ) → length (packed W k f) ≡ k
unfolding packed
length-packed W zero f = refl
length-packed W (suc k) f =
    length-append (packed W k f) (read_le f (W * k) W ∷ []) ∙ omega (arith, length-packed W k f)

pub get_or_packed : (W k : ℕ) (f : ℕ → ℕ) (i : ℕ) → i < k → get_or (packed W k f) i 0 ≡ read_le f (W * i) W
unfolding packed
get_or_packed W zero f i l = absurd (omega arith)
get_or_packed W (suc k) f i l =
    ⊎_elim top (λ m. lower m ∙ get_or_packed W k f i m) (eq-or-lt_of_le (le_of_suc-le-suc l))
  where
    top : i ≡ k → get_or (packed W k f ++ (read_le f (W * k) W ∷ [])) i 0 ≡ read_le f (W * i) W
    top e = rw e (get_or_at (packed W k f) (read_le f (W * k) W) [] 0 k (length-packed W k f))

    lower : i < k → get_or (packed W k f ++ (read_le f (W * k) W ∷ [])) i 0 ≡ get_or (packed W k f) i 0
    lower m = get_or-append (packed W k f) (read_le f (W * k) W ∷ []) 0 i (omega (arith, length-packed W k f))

-- Packing what is viewed gives the words back, where they fit W bytes.
pub packed-view : (W : ℕ) (ws : List ℕ) → ((i : ℕ) → get_or ws i 0 < 256 ^ W) → packed W (length ws) (view W ws) ≡ ws
packed-view W ws h =
    ext_get_or 0 (packed W (length ws) (view W ws)) ws (length-packed W (length ws) (view W ws))
    (λ i l. get_or_packed W (length ws) (view W ws) i (omega (arith, length-packed W (length ws) (view W ws)))
    ∙ whole i ∙ mod-eq_of_lt (h i))
  where
    whole : (i : ℕ) → read_le (view W ws) (W * i) W ≡ get_or ws i 0 % 256 ^ W
    whole i =
        read_le-view W ws i 0 W (omega arith) (omega arith) ∙ read_le_bytes (get_or ws i 0) 0 W
        ∙ ap (λ (v : ℕ). v % 256 ^ W) (div-one (get_or ws i 0))

-- The words with given bytes have these bytes.
pub view-packed : (W : ℕ) → 0 < W → (k : ℕ) (f : ℕ → ℕ) → ((x : ℕ) → f x < 256) → (a : ℕ) → a < W * k
    → view W (packed W k f) a ≡ f a
unfolding view
view-packed W p k f h a l =
    ap (λ (v : ℕ). byte v (a % W)) (get_or_packed W k f (a / W) ((div-lt_iff_lt-mul p).1 (omega (arith, mul_comm k W))))
    ∙ read_le-byte f h (W * (a / W)) W (a % W) (mod-lt a p) ∙ ap f (div-add-mod a W)
