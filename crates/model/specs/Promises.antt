-- What the calls promise, for every input and with no condition on the caller: `ws` are the lent words at entry, r is the answer, and
-- `ws'` are the words afterwards; `es` and `es'` are the numbers of a lent log, before and afterwards.
-- Assumes nothing.
use Rattle.std.specs.Prelude.{◌≡◌, List, ℕ, ℤ, length}
use Rattle.model.specs.declared.Answer.{Answer}
use Rattle.model.specs.Access.{Access}
use Rattle.model.specs.Answers.{an_address, Reply, answered, accepted, refused, copy_answer, move_answer, fill_answer, compare_answer, bcmp_answer, string_answer, copy_words, move_words, fill_words}
use Rattle.model.specs.Lists.{copy_list, move_list, fill_list}
use Rattle.model.specs.Log.{log_after}
use Rattle.model.specs.Meaning.{memcpy, memmove, memset}
use Rattle.model.specs.Memory.{view, packed}
use Rattle.model.specs.Refusals.{Line, checked, copy_table, ranges_table, fill_table, log_table}

-- The answer, in document 01's numbers and values with all eight counts, and every word of the memory afterwards.
pub record Promised (reply : Reply) (words : List ℕ) (r : Answer) (ws' : List ℕ) : Type 0 where
  pub answer : answered r ≡ reply
  pub memory : ws' ≡ words

abbrev pub CopyPromise : ℕ → List ℕ → ℕ → ℕ → ℕ → Answer → List ℕ → Type 0
CopyPromise W ws dest src n r ws' = Promised (copy_answer W (length ws) dest src n) (copy_words W ws dest src n) r ws'

abbrev pub MovePromise : ℕ → List ℕ → ℕ → ℕ → ℕ → Answer → List ℕ → Type 0
MovePromise W ws dest src n r ws' = Promised (move_answer W (length ws) dest src n) (move_words W ws dest src n) r ws'

abbrev pub FillPromise : ℕ → List ℕ → ℕ → ℤ → ℕ → Answer → List ℕ → Type 0
FillPromise W ws s c n r ws' = Promised (fill_answer W (length ws) s n) (fill_words W ws s c n) r ws'

-- Compare, bcmp and string length change nothing.
abbrev pub ComparePromise : ℕ → List ℕ → ℕ → ℕ → ℕ → Answer → List ℕ → Type 0
ComparePromise W ws s1 s2 n r ws' = Promised (compare_answer W ws s1 s2 n) ws r ws'

abbrev pub BcmpPromise : ℕ → List ℕ → ℕ → ℕ → ℕ → Answer → List ℕ → Type 0
BcmpPromise W ws s1 s2 n r ws' = Promised (bcmp_answer W ws s1 s2 n) ws r ws'

abbrev pub StringPromise : ℕ → List ℕ → ℕ → Answer → List ℕ → Type 0
StringPromise W ws s r ws' = Promised (string_answer W ws s) ws r ws'

-- A logged call, by the lines of its call, its destination, its list and the words that it leaves: refusal 6 comes last; an accepted call
-- answers as its call does, and writes its list; a refused one leaves the words and the log as found.
pub record LogPromised (lines : List Line) (dest : ℕ) (xs : List Access) (words : List ℕ) (ws es : List ℕ) (r : Answer)
    (ws' es' : List ℕ) : Type 0 where
  pub answer : answered r ≡ checked (log_table lines xs (length es)) refused (accepted (an_address dest) xs)
  pub memory : ws' ≡ checked (log_table lines xs (length es)) (λ i. ws) words
  pub log : es' ≡ checked (log_table lines xs (length es)) (λ i. es) (log_after xs es)

abbrev pub CopyLogPromise : ℕ → List ℕ → List ℕ → ℕ → ℕ → ℕ → Answer → List ℕ → List ℕ → Type 0
CopyLogPromise W ws es dest src n r ws' es' =
    LogPromised (copy_table W (length ws) dest src n) dest (copy_list W dest src n)
    (packed W (length ws) (memcpy dest src n (view W ws))) ws es r ws' es'

abbrev pub MoveLogPromise : ℕ → List ℕ → List ℕ → ℕ → ℕ → ℕ → Answer → List ℕ → List ℕ → Type 0
MoveLogPromise W ws es dest src n r ws' es' =
    LogPromised (ranges_table W (length ws) dest src n) dest (move_list W dest src n)
    (packed W (length ws) (memmove dest src n (view W ws))) ws es r ws' es'

abbrev pub FillLogPromise : ℕ → List ℕ → List ℕ → ℕ → ℤ → ℕ → Answer → List ℕ → List ℕ → Type 0
FillLogPromise W ws es s c n r ws' es' =
    LogPromised (fill_table W (length ws) s n) s (fill_list W s n)
    (packed W (length ws) (memset s c n (view W ws))) ws es r ws' es'
