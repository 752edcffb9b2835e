-- Laws of the definitions by which a line is read: what stands in front, one field, and the fields after it.
-- Assumes nothing.
use Rattle.std.proofs.Common.{◌≡◌, ℕ, suc, ◌+◌, ◌-◌, ◌<◌, ◌≤◌, Bool, true, false, not, cond, ltb, List, [], ◌∷◌, length, take, drop, Some, None, refl, sym, ◌∙◌, arith, ltb-false, lt-ltb, le-ltb, length-drop, length-take-le}
use Rattle.std.proofs.Math.Bool.{not-not}
use Rattle.std.specs.List.{position, prefix_len}
use Rattle.std.specs.Option.{unwrap_or}
use Rattle.std.proofs.lemmas.List.Sums.{prefix_len-le-length}
use Rattle.texts.specs.Texts.{front}
use Rattle.std.proofs.lemmas.List.{take_rest}
use Rattle.texts.proofs.Fronts.{front_is}
use Rattle.std.specs.declared.ops.Range.{Range}
use Rattle.commands.specs.Fields.{blank, belongs, trimmed, field_of, field_end, after_fields, is_empty, Spans}

twice : (test : ℕ → Bool) (s : List ℕ) → prefix_len (λ b. not (not (test b))) s ≡ prefix_len test s
twice test s = simp not-not

-- How many bytes pass a test in front is where the first stands that does not.
pub front_placed : (test : ℕ → Bool) (s : List ℕ) → unwrap_or (position (λ b. not (test b)) s) (length s) ≡ front test s
front_placed test s = rw (twice test s, front_is test s) (go (ltb (prefix_len test s) (length s)) refl)
  where
    go : (before : Bool) → ltb (prefix_len test s) (length s) ≡ before
        → unwrap_or (cond before (Some (prefix_len test s)) None) (length s) ≡ prefix_len test s
    go true before = refl
    go false past = omega (arith, ltb-false _ _ past, prefix_len-le-length test s)

front-within : (test : ℕ → Bool) (s : List ℕ) → front test s ≤ length s
front-within test s = rw (front_is test s) (prefix_len-le-length test s)

-- The first field by its parts: where it starts and how long it is, which were counted.
pub spans : (s : List ℕ) (start length' : ℕ) → start ≡ front blank s → start ≤ length s
    → length' ≡ front belongs (take (length s - start) (drop start s)) → length' ≤ length (take (length s - start) (drop start s))
    → Spans s (record { start = start; end = start + length' })
unfolding field_of field_end
spans s start length' blanks few letters few' =
    let letters' : length' ≡ front belongs (drop start s) = rw take_rest at letters in
    let back : start + length' - start ≡ length' = omega arith in
    record {
      ends = rw (letters', blanks);
      order = omega arith;
      inside = omega (arith, rw (take_rest s start, length-drop start s) at few');
      text = rw (back, letters', blanks);
    }

-- One field further, and none.
module _ (s : List ℕ) (i passed : ℕ) where
  pub after_next : (end : ℕ) → passed < i → end ≡ field_end s
      → after_fields s (i - passed) ≡ after_fields (take (length s - end) (drop end s)) (i - (passed + 1))
  unfolding after_fields
  after_next end more ends =
      let left : i - passed ≡ suc (i - (passed + 1)) = omega arith in
      rw (left, take_rest s end, ends)

  pub after_none : i ≤ passed → after_fields s (i - passed) ≡ s
  unfolding after_fields
  after_none past = let none : i - passed ≡ 0 = omega arith in rw none

-- A field by its length.
pub field_sized : (s : List ℕ) (start size : ℕ) → start ≡ front blank s → length (field_of s) ≡ size
    → (take size (take (length s - start) (drop start s)) ≡ field_of s) × (size ≤ length (take (length s - start) (drop start s)))
unfolding field_of
field_sized s start size blanks is =
    let few : front belongs (trimmed s) ≤ length (trimmed s) = front-within belongs (trimmed s) in
    let letters : front belongs (trimmed s) ≡ size = sym (length-take-le _ _ few) ∙ is in
    (rw (take_rest s start, blanks, ← letters), rw (take_rest s start, blanks, ← letters) few)

-- There is no field where it is empty.
pub field_empty : (s : List ℕ) {r : Range ℕ} → Spans s r → is_empty (field_of s) ≡ not (ltb r.start r.end)
field_empty s {r} at' = go (field_of s) at'.text
  where
    size : length (take (r.end - r.start) (drop r.start s)) ≡ r.end - r.start
    size = length-take-le (r.end - r.start) (drop r.start s) (omega (arith, length-drop r.start s, at'.inside))

    go : (t : List ℕ) → take (r.end - r.start) (drop r.start s) ≡ t → is_empty t ≡ not (ltb r.start r.end)
    go [] is = rw (le-ltb r.start r.end (omega (arith, rw is at size)))
    go (b ∷ t) is = rw (lt-ltb r.start r.end (omega (arith, rw is at size)))
