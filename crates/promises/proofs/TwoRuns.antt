-- Two runs: two memories of one size, whatever they hold, and one call. Stated of what the calls promise: r and q are the answers of the
-- two runs, each of which kept its promise.
-- Assumes nothing.
use mathlib.Core.Path.{◌≡◌, refl, sym, ap, ap₂, ◌∙◌}
use mathlib.Core.Bool.{Bool, true, false, cond}
use mathlib.Core.List.{List}
use Prim.Native.Nat.{ℕ, ◌*◌, ◌-◌}
use lib.IntN.{ℤ}
use lib.ListN.{length}
use Rattle.model.specs.declared.Answer.{Answer}
use Rattle.model.specs.Access.{Access}
use Rattle.model.specs.Answers.{Said, Reply, a_length, a_refusal, answered, accepted, refused, copy_answer, move_answer, fill_answer, compare_answer, bcmp_answer}
use Rattle.model.specs.Lists.{string_list}
use Rattle.model.specs.Meaning.{unequal, is_null}
use Rattle.model.specs.Memory.{view}
use Rattle.model.specs.Promises.{CopyPromise, MovePromise, FillPromise, ComparePromise, BcmpPromise, StringPromise}
use Rattle.model.specs.Refusals.{Line, checked, to_end, zero_at, no_zero, ranges_table, start_table}
use Rattle.model.specs.Tally.{tally}
use Rattle.model.proofs.AnswerLaws.{one_answer, string_start}
use Rattle.model.proofs.RefusalLaws.{checked-map}
use Rattle.model.specs.Places.{FirstAt}
use Rattle.model.proofs.FirstLaws.{same_place}
use Rattle.lists.proofs.Firsts.{same_difference}

-- ---- copy, move, fill: the outcome and each of the eight counts are the same

-- What is answered is a function of the number of words, and of nothing else that the memory holds.
by_size : (reply : ℕ → Reply) {k l : ℕ} (r q : Answer) → k ≡ l → answered r ≡ reply k → answered q ≡ reply l → r ≡ q
by_size reply r q e a b = one_answer r q (a ∙ ap reply e ∙ sym b)

pub two_copies : {r q : Answer} {ws' vs' : List ℕ} (ws vs : List ℕ) (W dest src n : ℕ) → length ws ≡ length vs
    → CopyPromise W ws dest src n r ws' → CopyPromise W vs dest src n q vs' → r ≡ q
two_copies {r = r} {q} ws vs W dest src n e a b = by_size (λ k. copy_answer W k dest src n) r q e a.answer b.answer

pub two_moves : {r q : Answer} {ws' vs' : List ℕ} (ws vs : List ℕ) (W dest src n : ℕ) → length ws ≡ length vs
    → MovePromise W ws dest src n r ws' → MovePromise W vs dest src n q vs' → r ≡ q
two_moves {r = r} {q} ws vs W dest src n e a b = by_size (λ k. move_answer W k dest src n) r q e a.answer b.answer

-- The fill values c and d may differ.
pub two_fills : {r q : Answer} {ws' vs' : List ℕ} (ws vs : List ℕ) (W s : ℕ) (c d : ℤ) (n : ℕ) → length ws ≡ length vs
    → FillPromise W ws s c n r ws' → FillPromise W vs s d n q vs' → r ≡ q
two_fills {r = r} {q} ws vs W s c d n e a b = by_size (λ k. fill_answer W k s n) r q e a.answer b.answer

-- ---- compare, bcmp, string length: the eight counts are the same where the first difference, or the first zero, stands at the same place p
-- in both memories, or in neither (p is then the length; `FirstAt`)

-- The counts of a reply are those of its list, whatever is said.
counted : (ls : List Line) (out : Said) (xs : List Access)
    → (checked ls refused (accepted out xs)).counts ≡ checked ls (λ i. (refused i).counts) (tally xs).counts.numbers
counted ls out xs = checked-map (λ (y : Reply). y.counts) ls refused (accepted out xs)

-- Compare and bcmp.
comparing : ℕ → ℕ → ℕ → ℕ → ℕ → List Access → List ℕ
comparing W s1 s2 n k xs = checked (ranges_table W k s1 s2 n) (λ i. (refused i).counts) (tally xs).counts.numbers

pub two_compares : {r q : Answer} {ws' vs' : List ℕ} (ws vs : List ℕ) (W s1 s2 n p : ℕ) → length ws ≡ length vs
    → FirstAt (unequal s1 s2 (view W ws)) n p → FirstAt (unequal s1 s2 (view W vs)) n p
    → ComparePromise W ws s1 s2 n r ws' → ComparePromise W vs s1 s2 n q vs' → (answered r).counts ≡ (answered q).counts
unfolding compare_answer comparing
two_compares ws vs W s1 s2 n p e f g a b =
    ap (λ (y : Reply). y.counts) a.answer ∙ counted _ _ _
    ∙ ap₂ (comparing W s1 s2 n) e (same_difference s1 s2 n p (view W ws) (view W vs) f g)
    ∙ sym (ap (λ (y : Reply). y.counts) b.answer ∙ counted _ _ _)

pub two_bcmps : {r q : Answer} {ws' vs' : List ℕ} (ws vs : List ℕ) (W s1 s2 n p : ℕ) → length ws ≡ length vs
    → FirstAt (unequal s1 s2 (view W ws)) n p → FirstAt (unequal s1 s2 (view W vs)) n p
    → BcmpPromise W ws s1 s2 n r ws' → BcmpPromise W vs s1 s2 n q vs' → (answered r).counts ≡ (answered q).counts
unfolding compare_answer bcmp_answer
two_bcmps ws vs W s1 s2 n p e f g a b = two_compares ws vs W s1 s2 n p e f g a b

-- String length.
measuring : ℕ → ℕ → ℕ → List Access → List ℕ
measuring W s k xs = checked (start_table W k s) (λ i. (refused i).counts) (tally xs).counts.numbers

-- Refusal 5 has the counts of its list, as an accepted call has.
either : (b : Bool) (x y : Reply) → x.counts ≡ y.counts → (cond b x y).counts ≡ y.counts
either true x y e = e
either false x y e = refl

measured : {r : Answer} {ws' : List ℕ} (W : ℕ) (ws : List ℕ) (s : ℕ) → StringPromise W ws s r ws'
    → (answered r).counts ≡ measuring W s (length ws) (string_list s (to_end W ws s) (zero_at W ws s))
unfolding measuring
measured W ws s a =
    let ls = start_table W (length ws) s in
    let xs = string_list s (to_end W ws s) (zero_at W ws s) in
    let none = accepted (a_refusal 5) xs in
    let some = accepted (a_length (zero_at W ws s)) xs in
    ap (λ (y : Reply). y.counts) (a.answer ∙ string_start W ws s)
    ∙ checked-map (λ (y : Reply). y.counts) ls refused (cond (no_zero W ws s).holds none some)
    ∙ ap (λ (x : List ℕ). checked ls (λ i. (refused i).counts) x) (either (no_zero W ws s).holds none some refl)

pub two_strings : {r q : Answer} {ws' vs' : List ℕ} (ws vs : List ℕ) (W s p : ℕ) → length ws ≡ length vs
    → FirstAt (is_null s (view W ws)) (to_end W ws s) p → FirstAt (is_null s (view W vs)) (to_end W vs s) p
    → StringPromise W ws s r ws' → StringPromise W vs s q vs' → (answered r).counts ≡ (answered q).counts
two_strings ws vs W s p e f g a b =
    let ends : to_end W ws s ≡ to_end W vs s = ap (λ (k : ℕ). W * k - s) e in
    let zeros = same_place (is_null s (view W ws)) (is_null s (view W vs)) (to_end W ws s) (to_end W vs s) p f g in
    measured W ws s a ∙ ap₂ (measuring W s) e (ap₂ (string_list s) ends zeros) ∙ sym (measured W vs s b)
