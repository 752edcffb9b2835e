-- The logged calls: the same four things as of the others, and what the log of an accepted one says. Stated of `LogPromised`, which the
-- promises of copy, move and fill are; the two runs, where the table's size of the memory matters, of each.
-- Assumes nothing.
use mathlib.Core.Path.{◌≡◌, refl, sym, ap, ap₂, ◌∙◌}
use mathlib.Core.List.{List, [], ◌∷◌, ◌++◌, map}
use Prim.Native.Nat.{ℕ}
use lib.IntN.{ℤ}
use lib.ListN.{length, take, drop}
use Rattle.model.specs.declared.Answer.{Answer}
use Rattle.model.specs.Access.{Access}
use Rattle.model.specs.Answers.{an_address, Reply, answered, refusal_in, accepted, refused}
use Rattle.model.specs.Lists.{copy_list, move_list, fill_list}
use Rattle.model.specs.Log.{entry_of, log_after}
use Rattle.model.specs.Promises.{LogPromised, CopyLogPromise, MoveLogPromise, FillLogPromise}
use Rattle.model.specs.Refusals.{Line, checked, none, given, ruled, log_table, copy_table, ranges_table, fill_table}
use Rattle.model.proofs.AnswerLaws.{one_answer}
use Rattle.model.proofs.RefusalLaws.{checked-map, checked_none, checked-given}

module _ {lines : List Line} {dest : ℕ} {xs : List Access} {words ws es : List ℕ} where
  -- Accepted exactly when: the refusal that is answered, if any, is what the call's lines and then line 6 give.
  pub log_exactly : {r : Answer} {ws' es' : List ℕ} → LogPromised lines dest xs words ws es r ws' es'
      → refusal_in (answered r).said ≡ ruled (log_table lines xs (length es))
  log_exactly a = ap (λ (y : Reply). refusal_in y.said) a.answer ∙ checked-map (λ (y : Reply). refusal_in y.said) _ _ _

  -- A refusal leaves all counts zero, the words and the log as found.
  pub log_untouched : {i : ℕ} {r : Answer} {ws' es' : List ℕ} → ruled (log_table lines xs (length es)) ≡ given i
      → LogPromised lines dest xs words ws es r ws' es' → (answered r ≡ refused i) × ((ws' ≡ ws) × (es' ≡ es))
  log_untouched e a =
      (a.answer ∙ checked-given _ _ _ e, (a.memory ∙ checked-given _ _ _ e, a.log ∙ checked-given _ _ _ e))

  -- One answer: the inputs leave one answer, one memory and one log.
  pub one_log : {r q : Answer} {ws' vs' es' fs' : List ℕ} → LogPromised lines dest xs words ws es r ws' es'
      → LogPromised lines dest xs words ws es q vs' fs' → (r ≡ q) × ((ws' ≡ vs') × (es' ≡ fs'))
  one_log {r} {q} a b =
      (one_answer r q (a.answer ∙ sym b.answer), (a.memory ∙ sym b.memory, a.log ∙ sym b.log))

  -- The log of an accepted call is the list, and what lies past it stays.
  pub log_list : {r : Answer} {ws' es' : List ℕ} → ruled (log_table lines xs (length es)) ≡ none
      → LogPromised lines dest xs words ws es r ws' es' → es' ≡ map entry_of xs ++ drop (length xs) es
  unfolding log_after
  log_list e a = a.log ∙ checked_none _ _ _ e

-- The numbers that were written are those of the list.
taken : (xs : List Access) (rest : List ℕ) → take (length xs) (map entry_of xs ++ rest) ≡ map entry_of xs
taken [] rest = refl
taken (x ∷ xs) rest = ap (λ (ns : List ℕ). entry_of x ∷ ns) (taken xs rest)

-- ---- two runs: two memories of one size, two logs of one length, whatever they hold, and one call

-- The outcome and the counts are the same; and all entries written, in their order.
abbrev pub SameLog : List Line → List Access → ℕ → Answer → Answer → List ℕ → List ℕ → Type 0
SameLog lines xs room r q es' fs' =
    (r ≡ q) × (ruled (log_table lines xs room) ≡ none → take (length xs) es' ≡ take (length xs) fs')

two_logs : {dest : ℕ} {xs : List Access} {words words' ws vs es fs ws' vs' es' fs' : List ℕ} {r q : Answer} (lines : ℕ → List Line)
    → length ws ≡ length vs → length es ≡ length fs → LogPromised (lines (length ws)) dest xs words ws es r ws' es'
    → LogPromised (lines (length vs)) dest xs words' vs fs q vs' fs' → SameLog (lines (length ws)) xs (length es) r q es' fs'
two_logs {dest} {xs} {es = es} {fs} {r = r} {q} lines k l a b = (
  one_answer r q (a.answer ∙ ap₂ (λ (i m : ℕ). checked (log_table (lines i) xs m) refused (accepted (an_address dest) xs)) k l ∙ sym b.answer),
  λ e.
      let second = sym (ap₂ (λ (i m : ℕ). ruled (log_table (lines i) xs m)) k l) ∙ e in
      ap (take (length xs)) (log_list e a) ∙ taken xs (drop (length xs) es)
      ∙ sym (ap (take (length xs)) (log_list second b) ∙ taken xs (drop (length xs) fs)),
)

module _ {r q : Answer} {ws' vs' es' fs' : List ℕ} (ws vs es fs : List ℕ) (W : ℕ) where
  pub two_copy_logs : (dest src n : ℕ) → length ws ≡ length vs → length es ≡ length fs → CopyLogPromise W ws es dest src n r ws' es'
      → CopyLogPromise W vs fs dest src n q vs' fs'
      → SameLog (copy_table W (length ws) dest src n) (copy_list W dest src n) (length es) r q es' fs'
  two_copy_logs dest src n k l a b = two_logs (λ i. copy_table W i dest src n) k l a b

  pub two_move_logs : (dest src n : ℕ) → length ws ≡ length vs → length es ≡ length fs → MoveLogPromise W ws es dest src n r ws' es'
      → MoveLogPromise W vs fs dest src n q vs' fs'
      → SameLog (ranges_table W (length ws) dest src n) (move_list W dest src n) (length es) r q es' fs'
  two_move_logs dest src n k l a b = two_logs (λ i. ranges_table W i dest src n) k l a b

  -- The fill values c and d may differ.
  pub two_fill_logs : (s : ℕ) (c d : ℤ) (n : ℕ) → length ws ≡ length vs → length es ≡ length fs → FillLogPromise W ws es s c n r ws' es'
      → FillLogPromise W vs fs s d n q vs' fs' → SameLog (fill_table W (length ws) s n) (fill_list W s n) (length es) r q es' fs'
  two_fill_logs s c d n k l a b = two_logs (λ i. fill_table W i s n) k l a b
