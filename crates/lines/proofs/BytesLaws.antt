-- Laws of `put` and `get`, as loops use them: one byte, or one word, more.
-- Assumes nothing.
use mathlib.Core.Path.{◌≡◌, refl, sym, ◌∙◌, ap, fun_ext}
use mathlib.Core.List.{List}
use Prim.Native.Nat.{ℕ, zero, suc, ◌+◌, ◌*◌, ◌-◌, ◌^◌, ◌/◌, ◌<◌, ◌≤◌}
use native.Mathlib.Nat.{pow-le-pow_right}
use native.Mathlib.Numerals.{add-one}
use native.Mathlib.Omega.{arith}
use lib.ListN.{length, get_or, length-append}
use borrow.Author.Tests.{eq-eqb, ne_eqb}
use Rattle.model.specs.Memory.{byte, view, over, laid, read_le}
use Rattle.model.proofs.ByteLaws.{byte_lt, read_le_lt, read_le-byte, read_le_one, read_le-append}
use Rattle.texts.specs.Codes.{codes}
use Rattle.texts.specs.Digits.{digit_of}
use Rattle.words8.specs.Word.{W}
use Rattle.model.proofs.MemoryLaws.{over_in, over_below, over_above, over_cong, Place, below, inside, above, place}
use Rattle.show.specs.Numbers.{hex_byte}
use Rattle.show.specs.declared.Out.{Out}
use Rattle.show.specs.Written.{Wrote}
use Rattle.show.proofs.Writing.{wrote_none, wrote_then}
use Rattle.lines.specs.Lines.{get_text}
use Rattle.lines.specs.Bytes.{hex_text, hex_number, hex_at, Laid, Put, PutNext}

-- Two digits for each byte.
hex_length : (f : ℕ → ℕ) (a n : ℕ) → length (hex_text f a n) ≡ 2 * n
unfolding hex_text
hex_length f a zero = refl
hex_length f a (suc n) = simp length-append (omega (arith, hex_length f a n))

pub hex_few : (f : ℕ → ℕ) (a n : ℕ) → length (hex_text f a n) ≤ 2 * n
hex_few f a n = omega (arith, hex_length f a n)

pub unwritten : (f : ℕ → ℕ) (a : ℕ) (o : Out) → o.end ≤ length o.bytes.now → Wrote (hex_text f a 0) o o
unfolding hex_text
unwritten f a o l = wrote_none o l

pub hex_more : (f : ℕ → ℕ) (a n b : ℕ) {old mid new : Out} → Wrote (hex_text f a n) old mid → b ≡ f (a + n) → Wrote (hex_byte b) mid new
    → Wrote (hex_text f a (n + 1)) old new
unfolding hex_text
hex_more f a n b w is v = rw (add-one n, ← is) (wrote_then w v)

-- `get`: the word, and the bytes if there are any.
abbrev bytes_word : List ℕ
bytes_word = codes "bytes"

module _ (f : ℕ → ℕ) (a n : ℕ) {old word new : Out} (w : Wrote bytes_word old word) where
  pub got_none : n ≡ 0 → Wrote (codes "\n") word new → Wrote (get_text f a n) old new
  unfolding get_text
  got_none none v = rw (eq-eqb n 0 none) (wrote_then w v)

  pub got_some : {space bytes : Out} → 0 < n → Wrote (codes " ") word space → Wrote (hex_text f a n) space bytes
      → Wrote (codes "\n") bytes new → Wrote (get_text f a n) old new
  unfolding get_text
  got_some some s b v = rw (ne_eqb n 0 (λ none. omega arith)) (wrote_then w (wrote_then (wrote_then s b) v))

-- No byte is put yet.
pub put_none : (W : ℕ) (hex : List ℕ) (a : ℕ) (ws : List ℕ) → Put W hex a 0 ws ws
put_none W hex a ws = record { size = refl; bytes = fun_ext (λ x. sym (go x (place a 0 x))) }
  where
    g : ℕ → ℕ
    g x = hex_at hex (x - a)

    go : (x : ℕ) → Place a 0 x → over a 0 g (view W ws) x ≡ view W ws x
    go x (below l) = over_below a 0 g (view W ws) x l
    go x (inside l m) = absurd (omega arith)
    go x (above l) = over_above a 0 g (view W ws) x l

-- What is put behind n bytes is put with them.
over_join : (a n m : ℕ) (g f : ℕ → ℕ) → over (a + n) m g (over a n g f) ≡ over a (n + m) g f
over_join a n m g f = fun_ext (λ x. go x (place a n x) (place (a + n) m x))
  where
    go : (x : ℕ) → Place a n x → Place (a + n) m x → over (a + n) m g (over a n g f) x ≡ over a (n + m) g f x
    go x (below l) q =
        over_below (a + n) m g (over a n g f) x (omega arith) ∙ over_below a n g f x l ∙ sym (over_below a (n + m) g f x l)
    go x (inside l k) q =
        over_below (a + n) m g (over a n g f) x k ∙ over_in a n g f x l k ∙ sym (over_in a (n + m) g f x l (omega arith))
    go x (above l) (below k) = absurd (omega arith)
    go x (above l) (inside l' k) =
        over_in (a + n) m g (over a n g f) x l' k ∙ sym (over_in a (n + m) g f x (omega arith) (omega arith))
    go x (above l) (above k) =
        over_above (a + n) m g (over a n g f) x k ∙ over_above a n g f x l ∙ sym (over_above a (n + m) g f x (omega arith))

pub put_then : {W : ℕ} {hex : List ℕ} {a i r : ℕ} {ws mid new : List ℕ} → Put W hex a i ws mid → PutNext W hex a i mid new r
    → Put W hex a r ws new
put_then {W} {hex} {a} {i} {r} {ws} p q =
    let sum : i + (r - i) ≡ r = omega (arith, q.more) in
    record {
      size = q.size ∙ p.size;
      bytes =
          q.bytes ∙ ap (over (a + i) (r - i) (λ x. hex_at hex (x - a))) p.bytes
          ∙ over_join a i (r - i) (λ x. hex_at hex (x - a)) (view W ws) ∙ ap (λ (n : ℕ). over a n (λ x. hex_at hex (x - a)) (view W ws)) sum;
    }

-- The bytes of a text are bytes, and two digits make one.
hex_lt : (hex : List ℕ) (i : ℕ) → hex_at hex i < 256
hex_lt hex i = byte_lt (hex_number (get_or hex (2 * i) 0) (get_or hex (2 * i + 1) 0)) 0

pub hex_byte_lem : (hex : List ℕ) (i v : ℕ) → digit_of (get_or hex (2 * i) 0) < 16 → digit_of (get_or hex (2 * i + 1) 0) < 16
    → v ≡ hex_number (get_or hex (2 * i) 0) (get_or hex (2 * i + 1) 0) → v ≡ hex_at hex i
hex_byte_lem hex i v high low is = omega arith

-- A store of the number that w bytes of the text make puts these bytes.
pub put_laid : {W : ℕ} {ws ws' : List ℕ} (hex : List ℕ) (a i w at v : ℕ) → Laid W w at v ws ws' → at ≡ a + i → 0 < w
    → i + w ≤ length hex / 2 → v ≡ read_le (hex_at hex) i w → PutNext W hex a i ws ws' (i + w)
put_laid {W} {ws} hex a i w at v s is some few value =
    let width : i + w - i ≡ w = omega arith in
    record {
      more = omega arith;
      few = few;
      size = s.size;
      bytes =
          s.bytes ∙ ap (λ (b : ℕ). over b w (laid v b) (view W ws)) is
          ∙ over_cong (a + i) w (laid v (a + i)) (λ x. hex_at hex (x - a)) (view W ws) (λ x low high. same x low high)
          ∙ ap (λ (n : ℕ). over (a + i) n (λ x. hex_at hex (x - a)) (view W ws)) (sym width);
    }
  where
    same : (x : ℕ) → a + i ≤ x → x < a + i + w → laid v (a + i) x ≡ hex_at hex (x - a)
    same x low high =
        let place' : i + (x - (a + i)) ≡ x - a = omega arith in
        ap (λ (n : ℕ). byte n (x - (a + i))) value ∙ read_le-byte (hex_at hex) (hex_lt hex) i w (x - (a + i)) (omega arith)
        ∙ ap (hex_at hex) place'

-- The word of the bytes from `left` on of the W that begin at byte i, and one more from its high end.
pub record WordFrom (hex : List ℕ) (i left word : ℕ) : Type 0 where
  pub few : left ≤ W
  pub is : word ≡ read_le (hex_at hex) (i + left) (W - left)

pub word_none : (hex : List ℕ) (i : ℕ) → WordFrom hex i W 0
unfolding read_le
word_none hex i = record { few = omega arith; is = refl }

module _ {hex : List ℕ} {i left word : ℕ} (w : WordFrom hex i left word) where
  longer : (b : ℕ) → 0 < left → b ≡ hex_at hex (i + (left - 1)) → word * 256 + b ≡ read_le (hex_at hex) (i + (left - 1)) (W - (left - 1))
  longer b some byte' =
      let next : i + (left - 1) + 1 ≡ i + left = omega arith in
      let width : 1 + (W - left) ≡ W - (left - 1) = omega (arith, w.few) in
      sym (ap (λ (n : ℕ). read_le (hex_at hex) (i + (left - 1)) n) (sym width) ∙ read_le-append (hex_at hex) (i + (left - 1)) 1 (W - left)
      ∙ rw (read_le_one (hex_at hex) (i + (left - 1)), next, ← w.is, ← byte'))

  pub word_fits : (b : ℕ) → 0 < left → b ≡ hex_at hex (i + (left - 1)) → word * 256 + b < 256 ^ W
  word_fits b some byte' =
      let most : 256 ^ (W - (left - 1)) ≤ 256 ^ W = pow-le-pow_right (omega arith) {i = W - (left - 1)} {j = W} (omega arith) in
      omega (arith, most, longer b some byte', read_le_lt (hex_at hex) (hex_lt hex) (i + (left - 1)) (W - (left - 1)))

  pub word_more : (b : ℕ) → 0 < left → b ≡ hex_at hex (i + (left - 1)) → WordFrom hex i (left - 1) (word * 256 + b)
  word_more b some byte' = record { few = omega (arith, w.few); is = longer b some byte' }

  pub word_room : 0 < left → word * 256 < 256 ^ W
  word_room some = omega (arith, word_fits (hex_at hex (i + (left - 1))) some refl)

  pub word_all : left ≤ 0 → word ≡ read_le (hex_at hex) i W
  word_all none =
      let start : i + left ≡ i = omega arith in
      let whole : W - left ≡ W = omega arith in
      rw (start, whole) at w.is
