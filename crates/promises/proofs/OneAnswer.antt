-- One answer: for each call, the inputs leave one possible answer and one possible memory. There is no exception: every promise is
-- `Promised` of an answer and words that the inputs alone give.
-- Assumes nothing.
use mathlib.Core.Path.{◌≡◌, sym, ◌∙◌}
use mathlib.Core.List.{List}
use Prim.Native.Nat.{ℕ}
use lib.IntN.{ℤ}
use Rattle.model.specs.declared.Answer.{Answer}
use Rattle.model.specs.Answers.{Reply}
use Rattle.model.specs.Promises.{Promised, CopyPromise, MovePromise, FillPromise, ComparePromise, BcmpPromise, StringPromise}
use Rattle.model.proofs.AnswerLaws.{one_answer}

-- Two answers, and what each left in the memory, are the same.
abbrev pub Same : Answer → Answer → List ℕ → List ℕ → Type 0
Same r q ws' vs' = (r ≡ q) × (ws' ≡ vs')

pub one_promise : {reply : Reply} {words : List ℕ} {r q : Answer} {ws' vs' : List ℕ} → Promised reply words r ws'
    → Promised reply words q vs' → Same r q ws' vs'
one_promise {r = r} {q} a b = (one_answer r q (a.answer ∙ sym b.answer), a.memory ∙ sym b.memory)

pub one_copy : {r q : Answer} {ws' vs' : List ℕ} (W : ℕ) (ws : List ℕ) (dest src n : ℕ) → CopyPromise W ws dest src n r ws'
    → CopyPromise W ws dest src n q vs' → Same r q ws' vs'
one_copy W ws dest src n a b = one_promise a b

pub one_move : {r q : Answer} {ws' vs' : List ℕ} (W : ℕ) (ws : List ℕ) (dest src n : ℕ) → MovePromise W ws dest src n r ws'
    → MovePromise W ws dest src n q vs' → Same r q ws' vs'
one_move W ws dest src n a b = one_promise a b

pub one_fill : {r q : Answer} {ws' vs' : List ℕ} (W : ℕ) (ws : List ℕ) (s : ℕ) (c : ℤ) (n : ℕ) → FillPromise W ws s c n r ws'
    → FillPromise W ws s c n q vs' → Same r q ws' vs'
one_fill W ws s c n a b = one_promise a b

pub one_compare : {r q : Answer} {ws' vs' : List ℕ} (W : ℕ) (ws : List ℕ) (s1 s2 n : ℕ) → ComparePromise W ws s1 s2 n r ws'
    → ComparePromise W ws s1 s2 n q vs' → Same r q ws' vs'
one_compare W ws s1 s2 n a b = one_promise a b

pub one_bcmp : {r q : Answer} {ws' vs' : List ℕ} (W : ℕ) (ws : List ℕ) (s1 s2 n : ℕ) → BcmpPromise W ws s1 s2 n r ws'
    → BcmpPromise W ws s1 s2 n q vs' → Same r q ws' vs'
one_bcmp W ws s1 s2 n a b = one_promise a b

pub one_string : {r q : Answer} {ws' vs' : List ℕ} (W : ℕ) (ws : List ℕ) (s : ℕ) → StringPromise W ws s r ws'
    → StringPromise W ws s q vs' → Same r q ws' vs'
one_string W ws s a b = one_promise a b
