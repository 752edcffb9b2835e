-- An answer is what it says: from the paper's outcome and counts it can be read back, so a promise on `answered` leaves one answer.
-- A string's reply, by what is checked before a byte is read.
-- Assumes nothing.
use mathlib.Core.Path.{◌≡◌, refl, sym, ap, ◌∙◌}
use mathlib.Core.Bool.{cond}
use mathlib.Core.List.{List}
use Prim.Native.Nat.{ℕ}
use lib.Dec.{eqb}
use lib.ListN.{length}
use Rattle.model.specs.declared.Answer.{Answer}
use Rattle.model.specs.declared.Outcome.{Outcome}
use Rattle.model.specs.declared.Outcome.TheVariants.{Address, Number, Length, Refused}
use Rattle.model.specs.declared.Refusal.{Refusal}
use Rattle.model.specs.declared.Refusal.TheVariants.{TooLarge, FirstOutside, SecondOutside, Overlap, NoZero, ShortLog}
use Rattle.model.specs.Answers.{Said, an_address, a_number, a_length, a_refusal, Reply, number_of, said_of, answered, accepted, refused, string_answer}
use Rattle.model.specs.Lists.{string_list}
use Rattle.model.specs.Refusals.{checked, to_end, zero_at, no_zero, start_table, string_table}

refusal_of : ℕ → Refusal
refusal_of r =
    cond (eqb r 1) TooLarge (cond (eqb r 2) FirstOutside (cond (eqb r 3) SecondOutside (cond (eqb r 4) Overlap (cond (eqb r 5) NoZero ShortLog))))

outcome_of : Said → Outcome
outcome_of (an_address a) = Address a
outcome_of (a_number z) = Number z
outcome_of (a_length n) = Length n
outcome_of (a_refusal r) = Refused (refusal_of r)

refusal_back : (r : Refusal) → refusal_of (number_of r) ≡ r
unfolding refusal_of
refusal_back TooLarge = refl
refusal_back FirstOutside = refl
refusal_back SecondOutside = refl
refusal_back Overlap = refl
refusal_back NoZero = refl
refusal_back ShortLog = refl

outcome_back : (o : Outcome) → outcome_of (said_of o) ≡ o
unfolding outcome_of
outcome_back (Address a) = refl
outcome_back (Number z) = refl
outcome_back (Length n) = refl
outcome_back (Refused r) = ap {B = Outcome} Refused (refusal_back r)

answer_of : Reply → Answer
answer_of r = record { outcome = outcome_of r.said; counts = record { numbers = r.counts } }

answer_back : (a : Answer) → answer_of (answered a) ≡ a
unfolding answer_of
answer_back a = ap {B = Answer} (λ (o : Outcome). record { outcome = o; counts = a.counts }) (outcome_back a.outcome)

pub one_answer : (a b : Answer) → answered a ≡ answered b → a ≡ b
one_answer a b e = sym (answer_back a) ∙ ap answer_of e ∙ answer_back b

-- Refusals 1 and 2 have no counts in the string's table either.
pub string_start : (W : ℕ) (ws : List ℕ) (s : ℕ) → string_answer W ws s
    ≡ checked (start_table W (length ws) s) refused
    (let xs = string_list s (to_end W ws s) (zero_at W ws s) in
    cond (no_zero W ws s).holds (accepted (a_refusal 5) xs) (accepted (a_length (zero_at W ws s)) xs))
unfolding string_answer string_table start_table checked
string_start W ws s = refl
