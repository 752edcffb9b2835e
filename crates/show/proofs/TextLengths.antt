-- How long the texts are at most, as Sizes.antt names it. `rooms` has these facts for the room that a text wants behind another.
-- Assumes nothing.
use Rattle.std.proofs.Common.{◌≡◌, refl, Bool, true, false, cond, List, [], ◌∷◌, ◌++◌, ℕ, zero, suc, ◌+◌, ◌*◌, ◌/◌, ◌%◌, ◌^◌, ◌<◌, ◌≤◌, ltb, pos, negsuc, length, get_or, take, length-append, arith}
use native.Mathlib.Nat.{pow-suc}
use borrow.Author.Tests.{ltb-false}
use Rattle.io.specs.Digits.{hex_digit_ascii}
use Rattle.model.specs.Answers.{Said, an_address, a_number, a_length, a_refusal, Reply}
use Rattle.show.specs.Numbers.{decimal_in, decimal}
use Rattle.show.specs.AnswerText.{slashed, four_counts, said_text, reply_text, answer_text}
use Rattle.show.specs.LoggedText.{written, spaced, list_text, logged_text}
use Rattle.show.specs.Sizes.{most_number, most_slashed, most_counts, most_outcome, most_reply, most_answer, most_short, most_spaced, most_logged}
use Rattle.show.proofs.Writing.{wrote_size}
use Rattle.show.proofs.LogLaws.{each_few, list_is}

few_in : (k n : ℕ) → length (decimal_in k n) ≤ k
unfolding decimal_in
few_in zero n = omega arith
few_in (suc k) n = go (ltb n 10) (few_in k (n / 10))
  where
    go : (b : Bool) → length (decimal_in k (n / 10)) ≤ k
        → length (cond b (hex_digit_ascii n ∷ []) (decimal_in k (n / 10) ++ (hex_digit_ascii (n % 10) ∷ []))) ≤ suc k
    go true h = omega arith
    go false h = simp length-append (omega arith)

pub decimal_few : (n : ℕ) → length (decimal n) ≤ most_number
decimal_few n = few_in most_number n

pub worded_few : (word : List ℕ) (n : ℕ) → length (word ++ decimal n) ≤ length word + most_number
worded_few word n = simp length-append (omega (arith, decimal_few n))

pub slashed_few : (n : ℕ) → length (slashed n) ≤ most_slashed
slashed_few n = omega (arith, decimal_few n)

pub four_few : (ns : List ℕ) (first : ℕ) → length (four_counts ns first) ≤ most_counts
unfolding four_counts
four_few ns first =
    simp length-append
    (omega (
      arith,
      decimal_few (get_or ns first 0),
      decimal_few (get_or ns (first + 1) 0),
      decimal_few (get_or ns (first + 2) 0),
      decimal_few (get_or ns (first + 3) 0),
    ))

pub counts_few : (word ns : List ℕ) (first : ℕ) → length (word ++ four_counts ns first) ≤ length word + most_counts
counts_few word ns first = simp length-append (omega (arith, four_few ns first))

pub said_few : (s : Said) → length (said_text s) ≤ most_outcome
unfolding said_text
said_few (an_address a) = omega (arith, decimal_few a)
said_few (a_number (pos n)) = omega (arith, decimal_few n)
said_few (a_number (negsuc n)) = omega (arith, decimal_few (suc n))
said_few (a_length n) = omega (arith, decimal_few n)
said_few (a_refusal r) = omega (arith, decimal_few r)

pub reply_few : (r : Reply) → length (reply_text r) ≤ most_reply
unfolding reply_text
reply_few r = simp length-append (omega (arith, said_few r.said, four_few r.counts 0, four_few r.counts 4))

pub answer_few : (r : Reply) → length (answer_text r) ≤ most_answer
unfolding answer_text
answer_few r = simp length-append (omega (arith, reply_few r))

-- A number has no more digits than the power of ten that it is below.
short_in : (k j n : ℕ) → n < 10 ^ suc j → length (decimal_in k n) ≤ suc j
unfolding decimal_in
short_in zero j n small = omega arith
short_in (suc k) j n small = go (ltb n 10) refl j small (λ i. short_in k i (n / 10))
  where
    go : (b : Bool) → ltb n 10 ≡ b → (i : ℕ) → n < 10 ^ suc i
        → ((h : ℕ) → n / 10 < 10 ^ suc h → length (decimal_in k (n / 10)) ≤ suc h)
        → length (cond b (hex_digit_ascii n ∷ []) (decimal_in k (n / 10) ++ (hex_digit_ascii (n % 10) ∷ []))) ≤ suc i
    go true e i small' rest = omega arith
    go false e zero small' rest = absurd (omega (arith, ltb-false n 10 e))
    go false e (suc i) small' rest = simp length-append (omega (arith, rest i (omega (arith, pow-suc 10 (suc i)))))

pub decimal_short : (n : ℕ) → n < 2 ^ 32 → length (decimal n) ≤ most_short
decimal_short n small = short_in most_number 9 n (omega arith)

pub spaced_few : (n : ℕ) → n < 2 ^ 32 → length (spaced n) ≤ most_spaced
spaced_few n small = omega (arith, decimal_short n small)

-- The first i numbers of a log, and the whole line.
pub list_few : (ns : List ℕ) → ((j : ℕ) → get_or ns j 0 < 2 ^ 32) → (i : ℕ) → length (list_text (take i ns)) ≤ i * most_spaced
list_few ns small i = rw list_is (each_few spaced most_spaced ns (λ j. spaced_few (get_or ns j 0) (small j)) i)

pub logged_few : (r : Reply) (log : List ℕ) → ((j : ℕ) → get_or log j 0 < 2 ^ 32) → written r ≤ length log
    → length (logged_text r log) ≤ most_logged (length log)
unfolding logged_text
logged_few r log small room = simp length-append (omega (arith, reply_few r, list_few log small (written r)))

pub ruleset rooms = (wrote_size, decimal_few, worded_few, four_few, said_few, reply_few)
