-- Every command that a line says is `Fine`, by the kinds of its row and what each field's number may be relied on for.
-- Assumes nothing.
use Rattle.std.proofs.Common.{◌≡◌, ℕ, ◌+◌, ◌*◌, ◌/◌, ◌%◌, ◌<◌, ◌≤◌, Bool, true, false, cond, eqb, ltb, List, [], ◌∷◌, length, Result, Ok, Err, IfOk, refl, ap, ◌∙◌, arith, leb-true, ltb-false, eq-eqb, ne_eqb}
use Rattle.std.proofs.lemmas.Bool.{eqb-false}
use Rattle.texts.specs.Texts.{is_text}
use Rattle.texts.specs.Digits.{all_digits}
use Rattle.commands.specs.declared.Command.{Command}
use Rattle.commands.specs.declared.Command.TheVariants.{Put, Get}
use Rattle.commands.specs.declared.Why.{Why}
use Rattle.commands.specs.declared.Why.TheVariants.{WrongFields, TooManyWords, TooMuchRoom, OddDigits, NoNumber}
use Rattle.commands.specs.Fields.{field_of, after, after_fields, is_empty}
use Rattle.commands.specs.Fine.{Fine}
use Rattle.commands.specs.Sizes.{memory_bytes, most_room}
use Rattle.commands.specs.Commands.{number_field, at_most, limited_field, hex_field, operand_of, Reading, with_number, reading, read_from, Row, choose, within, inside, rows, made, read_by, look_up, command_of}

-- The same of what a line says, as a type that says what that is.
record FineIn (most : ℕ) (s : List ℕ) (said : Result Command Why) : Type 0 where
  fine : IfOk said (Fine most s)

bad : {most : ℕ} {s : List ℕ} {why : Why} → FineIn most s (Err why)
bad = record { fine = tt }

-- What a field's number may be relied on for, by its kind.
record Good (most kind : ℕ) (t : List ℕ) (v : ℕ) : Type 0 where
  words : kind ≡ 107 → v ≤ most
  room : kind ≡ 114 → v ≤ most_room
  hex : kind ≡ 104 → (length t ≡ 2 * v) × (all_digits t ≡ true)

no_ok : {A : Type 0} {why : Why} {v : A} → ◌≡◌ {A = Result A Why} (Err why) (Ok v) → ⊥
no_ok e = cc

at_most_lem : (many : Why) (most v : ℕ) (o : Result ℕ Why) → at_most many most o ≡ Ok v → v ≤ most
at_most_lem many most v (Ok n) e = go (ltb most n) refl e
  where
    go : (t : Bool) → ltb most n ≡ t → cond t (Err many) (Ok n) ≡ Ok v → v ≤ most
    go true above e' = absurd (no_ok e')
    go false few e' = let same : n ≡ v = cc in omega (arith, ltb-false most n few)
at_most_lem many most v (Err why) e = absurd (no_ok e)

hex_digits : (t : List ℕ) (v : ℕ) → hex_field t ≡ Ok v → (length t ≡ 2 * v) × (all_digits t ≡ true)
unfolding hex_field
hex_digits t v e = go (eqb (length t % 2) 1) (all_digits t) refl refl e
  where
    go : (odd all : Bool) → eqb (length t % 2) 1 ≡ odd → all_digits t ≡ all
        → cond odd (Err OddDigits) (cond all (Ok (length t / 2)) (Err NoNumber)) ≡ Ok v → (length t ≡ 2 * v) × (all_digits t ≡ true)
    go true all odd' is e' = absurd (no_ok e')
    go false true odd' is e' =
        let half : length t / 2 ≡ v = cc in
        (omega (arith, eqb-false (length t % 2) 1 odd'), is)
    go false false odd' is e' = absurd (no_ok e')

good_field : (most kind : ℕ) (t : List ℕ) (v : ℕ) → operand_of most kind t ≡ Ok v → Good most kind t v
unfolding operand_of limited_field
good_field most kind [] v e = absurd (no_ok e)
good_field most kind (b ∷ t) v e = record {
  words = λ k. at_most_lem TooManyWords most v (number_field (b ∷ t)) (rw (eq-eqb kind 107 k) at e);
  room = λ r. at_most_lem TooMuchRoom most_room v (number_field (b ∷ t)) (rw r at e);
  hex = λ h. hex_digits (b ∷ t) v (rw h at e);
}

module _ (most : ℕ) where
  -- Each of the fields that were read.
  abbrev AllGood : List ℕ → ℕ → (ℕ → ℕ) → List ℕ → Type 0
  AllGood s i n [] = Unit {0}
  AllGood s i n (kind ∷ kinds) = (Good most kind (field_of s) (n i)) × (AllGood (after s) (i + 1) n kinds)

  record ReadWell (s : List ℕ) (i : ℕ) (n n' : ℕ → ℕ) (kinds : List ℕ) : Type 0 where
    before : (j : ℕ) → j < i → n' j ≡ n j
    good : AllGood s i n' kinds

  read_well : (kinds s : List ℕ) (i : ℕ) (n n' : ℕ → ℕ) → read_from most s i n kinds ≡ Ok n' → ReadWell s i n n' kinds
  unfolding read_from reading
  read_well [] s i n n' e = go (is_empty (field_of s)) e
    where
      go : (t : Bool) → cond t (Ok n) (Err WrongFields) ≡ Ok n' → ReadWell s i n n' []
      go true e' = let same : n' ≡ n = cc in record { before = λ j below. ap (λ (f : ℕ → ℕ). f j) same; good = tt }
      go false e' = absurd (no_ok e')
  read_well (kind ∷ kinds) s i n n' e =
      go (operand_of most kind (field_of s)) refl e (λ v. read_well kinds (after s) (i + 1) (with_number i v n) n')
    where
      go : (o : Result ℕ Why) → operand_of most kind (field_of s) ≡ o
          → reading o (λ v. read_from most (after s) (i + 1) (with_number i v n) kinds) ≡ Ok n'
          → ((v : ℕ) → read_from most (after s) (i + 1) (with_number i v n) kinds ≡ Ok n'
          → ReadWell (after s) (i + 1) (with_number i v n) n' kinds)
          → ReadWell s i n n' (kind ∷ kinds)
      go (Ok v) is e' rest =
          let well = rest v e' in
          let here : n' i ≡ v = well.before i (omega arith) ∙ rw (eq-eqb i i refl) in
          record {
            before = λ j below. well.before j (omega arith) ∙ rw (ne_eqb j i (λ same. omega arith));
            good = (rw here (good_field most kind (field_of s) v is), well.good);
          }
      go (Err why) is e' rest = absurd (no_ok e')

  -- A row is fine where what it says of good fields is.
  module _ (s : List ℕ) where
    abbrev FineRow : Row → Type 0
    FineRow r = (n : ℕ → ℕ) → AllGood (after s) 0 n r.kinds → FineIn most s (r.says n)

    data FineRows : List Row → Type 0 where
      none : FineRows []
      next : {r : Row} {rs : List Row} → FineRow r → FineRows rs → FineRows (r ∷ rs)

    also : {r : Row} {rs : List Row} → FineRow r → FineRows rs → FineRows (r ∷ rs)
    also fine later = next fine later

    fine-choose : (t : Bool) (a b : Result Command Why) → (t ≡ true → FineIn most s a) → FineIn most s b → FineIn most s (choose t a b)
    unfolding choose
    fine-choose true a b fine other = fine refl
    fine-choose false a b fine other = other

    fine-read : (r : Row) → FineRow r → FineIn most s (read_by most s r)
    unfolding made
    fine-read r fine = go (read_from most (after s) 0 (λ i. 0) r.kinds) refl
      where
        go : (found : Reading) → read_from most (after s) 0 (λ i. 0) r.kinds ≡ found → FineIn most s (made r.says found)
        go (Ok n) e = fine n (read_well r.kinds (after s) 0 (λ i. 0) n e).good
        go (Err why) e = bad

    fine-rows : (rs : List Row) → FineRows rs → FineIn most s (look_up most s rs)
    unfolding look_up
    fine-rows [] none = bad
    fine-rows (r ∷ rs) (next fine later) =
        fine-choose (is_text r.word (field_of s)) (read_by most s r) (look_up most s rs) (λ is. fine-read r fine) (fine-rows rs later)

    fine-inside : (address count : ℕ) (c : Command) → (address + count ≤ memory_bytes → FineIn most s (Ok c))
        → FineIn most s (inside address count c)
    unfolding inside within
    fine-inside address count c fine = fine-choose (within address count) (Ok c) _ (λ in'. fine (leb-true _ _ in')) bad

    put-fine : FineRow (record { word = []; kinds = 110 ∷ 104 ∷ []; says = λ n. inside (n 0) (n 1) (Put (n 0) (n 1)) })
    unfolding after_fields
    put-fine n good =
        let hex = good.1.0.hex refl in
        fine-inside (n 0) (n 1) (Put (n 0) (n 1)) (λ in'. record { fine = (in', hex.0, hex.1) })

    -- The rows, one by one.
    all-fine : FineRows (rows s)
    all-fine =
        also (λ n good. record { fine = good.0.words refl })
        (also (λ n good. record { fine = good.0.words refl })
        (also (λ n good. record { fine = good.0.words refl })
        (also (λ n good. record { fine = good.0.words refl })
        (also (λ n good. record { fine = good.0.words refl })
        (also (λ n good. record { fine = good.0.words refl })
        (also (λ n good. record { fine = (good.0.words refl, good.1.1.1.1.0.room refl) })
        (also (λ n good. record { fine = (good.0.words refl, good.1.1.1.1.0.room refl) })
        (also (λ n good. record { fine = (good.0.words refl, good.1.1.1.1.0.room refl) })
        (also put-fine
        (also (λ n good. fine-inside (n 0) (n 1) (Get (n 0) (n 1)) (λ in'. record { fine = in' }))
        (also (λ n good. record { fine = tt })
        none)))))))))))

    fine-line : FineIn most s (command_of most s)
    unfolding command_of
    fine-line = fine-choose _ _ _ (λ long. bad) (fine-choose _ _ _ (λ none. record { fine = tt }) (fine-rows (rows s) all-fine))

    pub fine-command : IfOk (command_of most s) (Fine most s)
    fine-command = fine-line.fine
