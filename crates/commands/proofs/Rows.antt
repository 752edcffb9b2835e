-- Laws of the rows: the fields of a command, one by one.
-- Assumes nothing.
use Rattle.std.proofs.Common.{◌≡◌, ℕ, zero, suc, ◌+◌, ◌-◌, ◌<◌, ◌≤◌, Bool, true, false, cond, eqb, List, length, get_or, set, take, drop, replicate, Result, Ok, Err, refl, sym, ap, ◌∙◌, arith, drop_of_length-le, length-set, get_or-set_same, get_or-set_other}
use mathlib.Core.Path.{fun_ext}
use Rattle.std.proofs.lemmas.Bool.{eqb-true, eqb-false}
use Rattle.std.proofs.lemmas.Bool.Decides.{nat_tests}
use Rattle.std.proofs.lemmas.List.{drop_more, take_rest}
use Rattle.commands.specs.declared.Why.{Why}
use Rattle.commands.specs.declared.Why.TheVariants.{WrongFields}
use Rattle.std.specs.declared.ops.Range.{Range}
use Rattle.commands.specs.Fields.{field_of, after, is_empty, Spans}
use Rattle.commands.specs.Sizes.{most_fields}
use Rattle.commands.specs.Commands.{operand_of, with_number, reading, read_from}
use Rattle.commands.specs.Tables.{listed}
use Rattle.commands.proofs.Reading.{field_empty}

-- At first no field has a number.
none_listed : (n i : ℕ) → ◌≡◌ {A = ℕ} (listed (replicate n 0) i) 0
none_listed zero i = refl
none_listed (suc n) zero = refl
none_listed (suc n) (suc i) = none_listed n i

-- A number that is stored is the number of its field.
stored : (ns : List ℕ) (i v : ℕ) → i < length ns → with_number i v (listed ns) ≡ listed (set ns i v)
stored ns i v below = fun_ext (λ j. go j (eqb j i) refl)
  where
    go : (j : ℕ) (e : Bool) → eqb j i ≡ e → cond e v (listed ns j) ≡ listed (set ns i v) j
    go j true is = rw (eqb-true j i is) (sym (get_or-set_same ns i v 0 below))
    go j false other = sym (get_or-set_other ns i j v 0 (eqb-false j i other))

-- The fields of s are read as the rest of them is, from field i on, with the numbers of those before it listed.
pub record ReadTo (most : ℕ) (s kinds rest : List ℕ) (i : ℕ) (ns : List ℕ) : Type 0 where
  pub room : length ns ≡ most_fields
  pub same : read_from most s 0 (λ j. 0) kinds ≡ read_from most rest i (listed ns) (drop i kinds)

pub read_begins : (most : ℕ) (s kinds : List ℕ) → ReadTo most s kinds s 0 (replicate most_fields 0)
read_begins most s kinds = record {
  room = refl;
  same = ap (λ (n : ℕ → ℕ). read_from most s 0 n kinds) (sym (fun_ext (none_listed most_fields)));
}

module _ {most : ℕ} {s kinds rest : List ℕ} {i : ℕ} {ns : List ℕ} {r : Range ℕ} {found : Result ℕ Why} (read : ReadTo most s kinds rest i ns)
    (below : i < length kinds) (field : Spans rest r)
    (is : found ≡ operand_of most (get_or kinds i 0) (take (r.end - r.start) (drop r.start rest))) where
  this : operand_of most (get_or kinds i 0) (field_of rest) ≡ found
  this = sym (rw field.text at is)

  pub read_more : (v : ℕ) → length kinds ≤ most_fields → found ≡ Ok v
      → ReadTo most s kinds (take (length rest - r.end) (drop r.end rest)) (i + 1) (set ns i v)
  unfolding read_from reading
  read_more v few good =
      let next : read_from most rest i (listed ns) (drop i kinds)
      ≡ read_from most (take (length rest - r.end) (drop r.end rest)) (i + 1) (listed (set ns i v)) (drop (i + 1) kinds) =
      rw (drop_more kinds i 0 below, this, good, take_rest rest r.end, field.ends)
      (ap (λ (n : ℕ → ℕ). read_from most (after rest) (i + 1) n (drop (i + 1) kinds)) (stored ns i v (omega (arith, read.room)))) in
      record { room = length-set ns i v ∙ read.room; same = read.same ∙ next }

  pub read_wrong : (why : Why) → found ≡ Err why → read_from most s 0 (λ j. 0) kinds ≡ Err why
  unfolding read_from reading
  read_wrong why bad = read.same ∙ rw (drop_more kinds i 0 below, this, bad)

-- There must be no further field.
pub read_all : {most : ℕ} {s kinds rest : List ℕ} {i : ℕ} {ns : List ℕ} → ReadTo most s kinds rest i ns → length kinds ≤ i
    → read_from most s 0 (λ j. 0) kinds ≡ cond (is_empty (field_of rest)) (Ok (listed ns)) (Err WrongFields)
unfolding read_from
read_all {kinds = kinds} read past = read.same ∙ rw (drop_of_length-le kinds past)

-- What the check of `read_fields` needs, where no field is read.
pub ruleset reading_rules = (nat_tests, field_empty, read_begins, read_all)
