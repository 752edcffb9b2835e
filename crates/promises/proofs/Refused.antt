-- A refusal leaves the memory as found and all counts zero, except 5, which counts M - s one-byte loads for start s.
-- Stated of what the calls promise: r is the answer of a call that kept its promise. Assumes nothing.
use mathlib.Core.Path.{◌≡◌, refl, ap, ap₂, ◌∙◌}
use mathlib.Core.Bool.{true}
use mathlib.Core.List.{List, [], ◌∷◌}
use Prim.Native.Nat.{ℕ, zero, suc, ◌+◌, ◌*◌, min}
use native.Mathlib.Nat.{mul-suc}
use native.Mathlib.Omega.{arith}
use lib.IntN.{ℤ}
use lib.ListN.{length}
use borrow.Author.Tests.{eqb-true}
use Rattle.model.specs.declared.Answer.{Answer}
use Rattle.model.specs.Access.{Access, load}
use Rattle.model.specs.Answers.{Reply, a_refusal, answered, accepted, refused, copy_answer, copy_words, move_answer, move_words, fill_answer, fill_words, compare_answer, bcmp_answer}
use Rattle.model.specs.Lists.{upto, string_list}
use Rattle.model.specs.Promises.{Promised, CopyPromise, MovePromise, FillPromise, ComparePromise, BcmpPromise, StringPromise}
use Rattle.model.specs.Refusals.{Line, checked, none, given, ruled, to_end, zero_at, no_zero, ranges_table, copy_table, fill_table, start_table}
use Rattle.model.specs.Tally.{total, load_of, store_of, tally}
use Rattle.model.proofs.RefusalLaws.{checked_none, checked-given}
use Rattle.model.proofs.TallyLaws.{total-append}
use Rattle.model.proofs.AnswerLaws.{string_start}

-- Refusal i, with all counts zero, and the words ws as found.
abbrev pub Untouched : ℕ → List ℕ → Answer → List ℕ → Type 0
Untouched i ws r ws' = (answered r ≡ refused i) × (ws' ≡ ws)

untouched : {r : Answer} {ws ws' : List ℕ} {i : ℕ} (ls : List Line) (reply : Reply) (words : List ℕ) → ruled ls ≡ given i
    → Promised (checked ls refused reply) (checked ls (λ j. ws) words) r ws' → Untouched i ws r ws'
untouched {ws = ws} ls reply words e p = (p.answer ∙ checked-given ls refused reply e, p.memory ∙ checked-given ls (λ j. ws) words e)

pub copy_untouched : {r : Answer} {ws' : List ℕ} {i : ℕ} (W : ℕ) (ws : List ℕ) (dest src n : ℕ)
    → ruled (copy_table W (length ws) dest src n) ≡ given i → CopyPromise W ws dest src n r ws' → Untouched i ws r ws'
unfolding copy_answer copy_words
copy_untouched W ws dest src n e p = untouched _ _ _ e p

pub move_untouched : {r : Answer} {ws' : List ℕ} {i : ℕ} (W : ℕ) (ws : List ℕ) (dest src n : ℕ)
    → ruled (ranges_table W (length ws) dest src n) ≡ given i → MovePromise W ws dest src n r ws' → Untouched i ws r ws'
unfolding move_answer move_words
move_untouched W ws dest src n e p = untouched _ _ _ e p

pub fill_untouched : {r : Answer} {ws' : List ℕ} {i : ℕ} (W : ℕ) (ws : List ℕ) (s : ℕ) (c : ℤ) (n : ℕ)
    → ruled (fill_table W (length ws) s n) ≡ given i → FillPromise W ws s c n r ws' → Untouched i ws r ws'
unfolding fill_answer fill_words
fill_untouched W ws s c n e p = untouched _ _ _ e p

pub compare_untouched : {r : Answer} {ws' : List ℕ} {i : ℕ} (W : ℕ) (ws : List ℕ) (s1 s2 n : ℕ)
    → ruled (ranges_table W (length ws) s1 s2 n) ≡ given i → ComparePromise W ws s1 s2 n r ws' → Untouched i ws r ws'
unfolding compare_answer
compare_untouched W ws s1 s2 n e p = (p.answer ∙ checked-given _ _ _ e, p.memory)

pub bcmp_untouched : {r : Answer} {ws' : List ℕ} {i : ℕ} (W : ℕ) (ws : List ℕ) (s1 s2 n : ℕ)
    → ruled (ranges_table W (length ws) s1 s2 n) ≡ given i → BcmpPromise W ws s1 s2 n r ws' → Untouched i ws r ws'
unfolding bcmp_answer
bcmp_untouched W ws s1 s2 n e p = (p.answer ∙ checked-given _ _ _ e, p.memory)

-- Refusals 1 and 2 of a string.
pub string_untouched : {r : Answer} {ws' : List ℕ} {i : ℕ} (W : ℕ) (ws : List ℕ) (s : ℕ)
    → ruled (start_table W (length ws) s) ≡ given i → StringPromise W ws s r ws' → Untouched i ws r ws'
string_untouched W ws s e p = (p.answer ∙ string_start W ws s ∙ checked-given _ _ _ e, p.memory)

-- ---- refusal 5

-- What one-byte loads count, where each counts v.
loads_total : (c : Access → ℕ) (v s n : ℕ) → ((a : ℕ) → c (load 1 a) ≡ v) → total c (upto n (λ i. load 1 (s + i) ∷ [])) ≡ v * n
unfolding upto total
loads_total c v s zero h = omega arith
loads_total c v s (suc n) h =
    total-append c (upto n (λ i. load 1 (s + i) ∷ [])) (load 1 (s + n) ∷ [])
    ∙ omega (arith, loads_total c v s n h, h (s + n), mul-suc v n)

-- As document 01 writes counts: so many loads of 1 byte, and nothing else.
abbrev pub byte_loads : ℕ → List ℕ
byte_loads n = n ∷ 0 ∷ 0 ∷ 0 ∷ 0 ∷ 0 ∷ 0 ∷ 0 ∷ []

loads_counted : (s n : ℕ) → (tally (upto n (λ i. load 1 (s + i) ∷ []))).counts.numbers ≡ byte_loads n
unfolding tally
loads_counted s n =
    let one : 1 * n ≡ n = omega arith in
    let none : 0 * n ≡ 0 = omega arith in
    rw (
      loads_total (load_of 1) 1 s n (λ a. refl),
      loads_total (load_of 2) 0 s n (λ a. refl),
      loads_total (load_of 4) 0 s n (λ a. refl),
      loads_total (load_of 8) 0 s n (λ a. refl),
      loads_total (store_of 1) 0 s n (λ a. refl),
      loads_total (store_of 2) 0 s n (λ a. refl),
      loads_total (store_of 4) 0 s n (λ a. refl),
      loads_total (store_of 8) 0 s n (λ a. refl),
    ) (ap₂ (λ (a b : ℕ). a ∷ b ∷ b ∷ b ∷ b ∷ b ∷ b ∷ b ∷ []) one none)

unended : (s m z : ℕ) → z ≡ m → (tally (string_list s m z)).counts.numbers ≡ byte_loads m
unfolding string_list
unended s m z e =
    let all : min (suc z) m ≡ m = omega arith in
    ap (λ (n : ℕ). (tally (upto n (λ i. load 1 (s + i) ∷ []))).counts.numbers) all ∙ loads_counted s m

-- No zero byte from the start to M - 1: refusal 5, with one load for each of these bytes, and the words as found.
pub string_unended : {r : Answer} {ws' : List ℕ} (W : ℕ) (ws : List ℕ) (s : ℕ) → ruled (start_table W (length ws) s) ≡ none
    → (no_zero W ws s).holds ≡ true → StringPromise W ws s r ws'
    → (answered r ≡ record { said = a_refusal 5; counts = byte_loads (to_end W ws s) }) × (ws' ≡ ws)
string_unended W ws s e h p = (p.answer ∙ string_start W ws s ∙ checked_none _ _ _ e ∙ rw h said, p.memory)
  where
    said : accepted (a_refusal 5) (string_list s (to_end W ws s) (zero_at W ws s)) ≡ record { said = a_refusal 5; counts = byte_loads (to_end W ws s) }
    said =
        ap (λ (ns : List ℕ). record { said = a_refusal 5; counts = ns })
        (unended s (to_end W ws s) (zero_at W ws s) (eqb-true (zero_at W ws s) (to_end W ws s) h))
