-- The laws of `Wrote`: a text written, and one written behind it, are the two written as one (`wrote_then`).
-- Assumes nothing.
use mathlib.Core.Path.{◌≡◌, refl, sym, ◌∙◌}
use mathlib.Core.List.{List, [], ◌++◌, append_assoc}
use Prim.Native.Nat.{ℕ, ◌+◌, ◌≤◌}
use native.Mathlib.Omega.{arith}
use lib.ListN.{length, take, drop, length-append, length-take, length-drop, take-append-drop}
use lib.Seq.{take_at, drop_at, drop-drop}
use Rattle.show.specs.declared.Out.{Out}
use Rattle.show.specs.Written.{Wrote}

module _ {xs : List ℕ} {old new : Out} where
  -- As many bytes as before.
  pub wrote_size : Wrote xs old new → length new.bytes.now ≡ length old.bytes.now
  wrote_size w = rw w.bytes (simp (length-append, length-take, length-drop) (omega (arith, w.ends, w.inside)))

  -- No more than so many bytes further, in a buffer of the same size.
  pub wrote_within : {k : ℕ} → length xs ≤ k → Wrote xs old new → (new.end ≤ old.end + k) × (length new.bytes.now ≡ length old.bytes.now)
  wrote_within l w = (omega (arith, w.ends), wrote_size w)

  -- The same text, said in another way.
  pub wrote_as : {ys : List ℕ} → xs ≡ ys → Wrote xs old new → Wrote ys old new
  wrote_as e w = rw e at w

  -- What stands up to the end, and from there on.
  front_length : Wrote xs old new → length (take old.end old.bytes.now ++ xs) ≡ new.end
  front_length w = simp (length-append, length-take) (omega (arith, w.ends, w.inside))

  split : Wrote xs old new → new.bytes.now ≡ (take old.end old.bytes.now ++ xs) ++ drop new.end old.bytes.now
  split w = w.bytes ∙ sym (append_assoc (take old.end old.bytes.now) xs (drop new.end old.bytes.now))

  pub wrote_before : Wrote xs old new → take new.end new.bytes.now ≡ take old.end old.bytes.now ++ xs
  wrote_before w = rw (split w) (take_at (take old.end old.bytes.now ++ xs) (drop new.end old.bytes.now) new.end (front_length w))

  pub wrote_after : Wrote xs old new → drop new.end new.bytes.now ≡ drop new.end old.bytes.now
  wrote_after w = rw (split w) (drop_at (take old.end old.bytes.now ++ xs) (drop new.end old.bytes.now) new.end (front_length w))

pub wrote_none : (o : Out) → o.end ≤ length o.bytes.now → Wrote [] o o
wrote_none o l = record { ends = omega arith; inside = l; bytes = sym (take-append-drop o.end o.bytes.now); same = refl }

-- One text behind another.
module _ {xs ys : List ℕ} {old mid new : Out} where
  rest_same : Wrote xs old mid → Wrote ys mid new → drop new.end mid.bytes.now ≡ drop new.end old.bytes.now
  rest_same w v = rw (v.ends, ← drop-drop (length ys) mid.end mid.bytes.now, wrote_after w, drop-drop)

  pub wrote_then : Wrote xs old mid → Wrote ys mid new → Wrote (xs ++ ys) old new
  wrote_then w v = record {
    ends = simp length-append (omega (arith, w.ends, v.ends));
    inside = omega (arith, wrote_size w, v.inside);
    bytes = v.bytes ∙ rw (wrote_before w, rest_same w v) (simp append_assoc);
    same = v.same ∙ w.same;
  }
