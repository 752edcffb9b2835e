-- Accepted exactly when: the refusal that a call answers, if any, is what its table gives (`ruled`). So a call is accepted exactly when no
-- line holds (`none_holds`, `holds_none`), and else refused with the number of the first that does (`first_line`).
-- Stated of what the calls promise: r is the answer of a call that kept its promise.
-- Assumes nothing.
use mathlib.Core.Path.{◌≡◌, ap, ◌∙◌}
use mathlib.Core.List.{List}
use Prim.Native.Nat.{ℕ}
use lib.IntN.{ℤ}
use lib.ListN.{length}
use Rattle.model.specs.declared.Answer.{Answer}
use Rattle.model.specs.Answers.{Reply, answered, refusal_in, copy_answer, move_answer, fill_answer, compare_answer, bcmp_answer, string_answer}
use Rattle.model.specs.Promises.{CopyPromise, MovePromise, FillPromise, ComparePromise, BcmpPromise, StringPromise}
use Rattle.model.specs.Refusals.{Ruling, ruled, ranges_table, copy_table, fill_table, string_table}
use Rattle.model.proofs.RefusalLaws.{checked-map}

abbrev refusal : Reply → Ruling
refusal reply = refusal_in reply.said

pub copy_exactly : {r : Answer} {ws' : List ℕ} (W : ℕ) (ws : List ℕ) (dest src n : ℕ) → CopyPromise W ws dest src n r ws'
    → refusal (answered r) ≡ ruled (copy_table W (length ws) dest src n)
unfolding copy_answer
copy_exactly W ws dest src n a = ap refusal a.answer ∙ checked-map refusal _ _ _

pub move_exactly : {r : Answer} {ws' : List ℕ} (W : ℕ) (ws : List ℕ) (dest src n : ℕ) → MovePromise W ws dest src n r ws'
    → refusal (answered r) ≡ ruled (ranges_table W (length ws) dest src n)
unfolding move_answer
move_exactly W ws dest src n a = ap refusal a.answer ∙ checked-map refusal _ _ _

pub fill_exactly : {r : Answer} {ws' : List ℕ} (W : ℕ) (ws : List ℕ) (s : ℕ) (c : ℤ) (n : ℕ) → FillPromise W ws s c n r ws'
    → refusal (answered r) ≡ ruled (fill_table W (length ws) s n)
unfolding fill_answer
fill_exactly W ws s c n a = ap refusal a.answer ∙ checked-map refusal _ _ _

pub compare_exactly : {r : Answer} {ws' : List ℕ} (W : ℕ) (ws : List ℕ) (s1 s2 n : ℕ) → ComparePromise W ws s1 s2 n r ws'
    → refusal (answered r) ≡ ruled (ranges_table W (length ws) s1 s2 n)
unfolding compare_answer
compare_exactly W ws s1 s2 n a = ap refusal a.answer ∙ checked-map refusal _ _ _

pub bcmp_exactly : {r : Answer} {ws' : List ℕ} (W : ℕ) (ws : List ℕ) (s1 s2 n : ℕ) → BcmpPromise W ws s1 s2 n r ws'
    → refusal (answered r) ≡ ruled (ranges_table W (length ws) s1 s2 n)
unfolding bcmp_answer
bcmp_exactly W ws s1 s2 n a = ap refusal a.answer ∙ checked-map refusal _ _ _

pub string_exactly : {r : Answer} {ws' : List ℕ} (W : ℕ) (ws : List ℕ) (s : ℕ) → StringPromise W ws s r ws'
    → refusal (answered r) ≡ ruled (string_table W ws s)
unfolding string_answer
string_exactly W ws s a = ap refusal a.answer ∙ checked-map refusal _ _ _
