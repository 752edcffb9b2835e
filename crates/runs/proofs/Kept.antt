-- How the calls keep their promises, over the word size: a call that its table refuses has only to answer the number; one that is
-- accepted has performed its list, and performing it is what C says.
-- Assumes nothing.
use mathlib.Core.Path.{◌≡◌, refl, sym, ap, ap₂, ◌∙◌}
use mathlib.Core.Bool.{Bool, true, false, cond}
use mathlib.Core.List.{List}
use Prim.Native.Nat.{ℕ, ◌*◌, ◌^◌, ◌<◌, ◌≤◌}
use native.Mathlib.Omega.{arith}
use lib.Dec.{ltb, eqb}
use lib.IntN.{ℤ}
use lib.ListN.{length, get_or}
use borrow.Author.Tests.{ltb-true, ltb-false, eq-eqb, ne_eqb}
use Rattle.model.specs.declared.Answer.{Answer}
use Rattle.std.specs.Prelude.{Result}
use Rattle.std.specs.Result.{IsErrAnd}
use Rattle.std.proofs.lemmas.Result.{err_from_is_err_and}
use Rattle.model.specs.declared.Refusal.{Refusal}
use Rattle.model.specs.declared.Work.{Work}
use Rattle.model.specs.Access.{Access}
use Rattle.model.specs.Answers.{number_of, ruling_of, Said, Reply, an_address, a_number, a_length, a_refusal, answered, replied, accepted, refused, copy_answer, move_answer, fill_answer, compare_answer, copy_words, move_words, fill_words}
use Rattle.model.specs.Lists.{copy_list, move_list, fill_list, compare_list, string_list}
use Rattle.model.specs.Meaning.{memcpy, memmove, memset, memcmp, difference, is_null}
use Rattle.model.specs.Memory.{byte_of, view, packed}
use Rattle.model.specs.Perform.{State, perform, moving, filling}
use Rattle.model.specs.Promises.{Promised, CopyPromise, MovePromise, FillPromise, ComparePromise, StringPromise, LogPromised, CopyLogPromise, MoveLogPromise, FillLogPromise}
use Rattle.runs.specs.Ran.{Lent, lent, Ran, Found}
use Rattle.model.specs.declared.Log.{Log}
use Rattle.model.specs.Log.{log_after}
use Rattle.model.specs.Refusals.{Line, Ruling, checked, none, given, ruled, to_end, zero_at, ranges_table, copy_table, fill_table, log_table, start_table}
use Rattle.model.proofs.AnswerLaws.{string_start}
use Rattle.model.proofs.MemoryLaws.{packed-view}
use Rattle.model.proofs.RefusalLaws.{checked_none, checked-given, copy_accepted, log_accepted}
use Rattle.model.proofs.LogLaws.{log_written}
use Rattle.runs.proofs.Passed.{string_moved}
use Rattle.lists.specs.Sizes.{Core}
use Rattle.model.proofs.FirstLaws.{first_exists}
use Rattle.lists.proofs.Performed.{copy_performed, move_performed, fill_performed}
use Rattle.runs.proofs.Tests.{start_outside_lem}

-- What the checks were proved to find, at the verdict that they gave.
pub ruled_by : {v u : Result (Unit {0}) Refusal} {x : Ruling} → ruling_of v ≡ x → v ≡ u → x ≡ ruling_of u
ruled_by a b = sym a ∙ ap ruling_of b

-- A refusal that a `?` hands on.
pub handed_on : {x : Ruling} (r : Result (Unit {0}) Refusal) (why : Refusal) → IsErrAnd r (λ e. e ≡ why) → given (number_of why) ≡ x
    → ruling_of r ≡ x
handed_on r why h e = let p = err_from_is_err_and r h in rw (p.1, p.2) e

-- ---- any call that may change the memory

-- It is refused: nothing was done.
refused_kept : {r : Answer} {ws : List ℕ} {i : ℕ} (ls : List Line) (reply : Reply) (words : List ℕ) → ruled ls ≡ given i
    → answered r ≡ refused i → Promised (checked ls refused reply) (checked ls (λ j. ws) words) r ws
refused_kept {ws = ws} ls reply words e a = record {
  answer = a ∙ sym (checked-given ls refused reply e);
  memory = sym (checked-given ls (λ j. ws) words e);
}

-- It is accepted: what was done is what is promised.
accepted_kept : {r : Answer} {ws' : List ℕ} (ws : List ℕ) (ls : List Line) (reply : Reply) (words : List ℕ) → ruled ls ≡ none
    → answered r ≡ reply → ws' ≡ words → Promised (checked ls refused reply) (checked ls (λ j. ws) words) r ws'
accepted_kept ws ls reply words e a m = record {
  answer = a ∙ sym (checked_none ls refused reply e);
  memory = m ∙ sym (checked_none ls (λ j. ws) words e);
}

-- The words of a memory fit the word size.
abbrev pub Fitting : ℕ → List ℕ → Type 0
Fitting W ws = (i : ℕ) → get_or ws i 0 < 256 ^ W

-- The words that a list leaves are those with the bytes that performing it means.
left_words : {W : ℕ} {give : (ℕ → ℕ) → ℕ → ℕ} {xs : List Access} {z z' : Lent} {work : Work} (meant : (ℕ → ℕ) → ℕ → ℕ)
    → Fitting W z'.words → Ran W give xs z z' work → ((y : State) → (perform give xs y).bytes ≡ meant y.bytes)
    → z'.words ≡ packed W (length z.words) (meant (view W z.words))
left_words {W} {give} {xs} {z} {z'} meant h ran m =
    let start : State = record { bytes = view W z.words; held = λ x. 0 } in
    sym (packed-view W z'.words h)
    ∙ ap₂ (packed W) ran.size (sym (ran.performed (λ x. 0) tt) ∙ m start)

-- ---- copy, move, fill

pub copy_refused : {r : Answer} {ws : List ℕ} {i : ℕ} (W dest src n : ℕ) → ruled (copy_table W (length ws) dest src n) ≡ given i
    → answered r ≡ refused i → CopyPromise W ws dest src n r ws
unfolding copy_answer copy_words
copy_refused W dest src n e a = refused_kept _ _ _ e a

pub copy_kept : {W : ℕ} {r : Answer} {ws ws' : List ℕ} {g g' : Log} {work : Work} → Core W → (dest src n : ℕ) → Fitting W ws'
    → ruled (copy_table W (length ws) dest src n) ≡ none → Ran W (moving dest src) (copy_list W dest src n) (lent ws g) (lent ws' g') work
    → answered r ≡ replied (an_address dest) work → CopyPromise W ws dest src n r ws'
unfolding copy_answer copy_words
copy_kept {W} {ws = ws} p dest src n h e ran a =
    let apart = (copy_accepted W (length ws) dest src n e).1 in
    accepted_kept ws _ _ _ e (a ∙ ap (replied (an_address dest)) ran.recorded.counted) (left_words (memcpy dest src n) h ran (copy_performed p dest src n apart))

pub move_refused : {r : Answer} {ws : List ℕ} {i : ℕ} (W dest src n : ℕ) → ruled (ranges_table W (length ws) dest src n) ≡ given i
    → answered r ≡ refused i → MovePromise W ws dest src n r ws
unfolding move_answer move_words
move_refused W dest src n e a = refused_kept _ _ _ e a

pub move_kept : {W : ℕ} {r : Answer} {ws ws' : List ℕ} {g g' : Log} {work : Work} → Core W → (dest src n : ℕ) → Fitting W ws'
    → ruled (ranges_table W (length ws) dest src n) ≡ none → Ran W (moving dest src) (move_list W dest src n) (lent ws g) (lent ws' g') work
    → answered r ≡ replied (an_address dest) work → MovePromise W ws dest src n r ws'
unfolding move_answer move_words
move_kept {ws = ws} p dest src n h e ran a =
    accepted_kept ws _ _ _ e (a ∙ ap (replied (an_address dest)) ran.recorded.counted) (left_words (memmove dest src n) h ran (move_performed p dest src n))

pub fill_refused : {r : Answer} {ws : List ℕ} {i : ℕ} (W s : ℕ) (c : ℤ) (n : ℕ) → ruled (fill_table W (length ws) s n) ≡ given i
    → answered r ≡ refused i → FillPromise W ws s c n r ws
unfolding fill_answer fill_words
fill_refused W s c n e a = refused_kept _ _ _ e a

pub fill_kept : {W b : ℕ} {r : Answer} {ws ws' : List ℕ} {g g' : Log} {work : Work} → Core W → (s : ℕ) (c : ℤ) (n : ℕ) → Fitting W ws'
    → ruled (fill_table W (length ws) s n) ≡ none → b ≡ byte_of c → Ran W (filling b) (fill_list W s n) (lent ws g) (lent ws' g') work
    → answered r ≡ replied (an_address s) work → FillPromise W ws s c n r ws'
unfolding fill_answer fill_words
fill_kept {ws = ws} p s c n h e q ran a =
    accepted_kept ws _ _ _ e (a ∙ ap (replied (an_address s)) ran.recorded.counted) (left_words (memset s c n) h ran (λ (y : State). rw q (fill_performed p s n c y)))

-- ---- compare, string length: the words are as found

pub compare_refused : {r : Answer} {ws : List ℕ} {i : ℕ} (W s1 s2 n : ℕ) → ruled (ranges_table W (length ws) s1 s2 n) ≡ given i
    → answered r ≡ refused i → ComparePromise W ws s1 s2 n r ws
unfolding compare_answer
compare_refused W s1 s2 n e a = record { answer = a ∙ sym (checked-given _ _ _ e); memory = refl }

pub compare_kept : {r : Answer} {ws : List ℕ} {z : ℤ} {g g' : Log} {work : Work} (W s1 s2 n : ℕ) → ruled (ranges_table W (length ws) s1 s2 n) ≡ none
    → Found (memcmp s1 s2 n (view W ws)) (compare_list s1 s2 n (difference s1 s2 n (view W ws))) g g' z work
    → answered r ≡ replied (a_number z) work → ComparePromise W ws s1 s2 n r ws
unfolding compare_answer
compare_kept W s1 s2 n e f a = record {
  answer = a ∙ ap₂ (λ (v : ℤ) (w : Work). replied (a_number v) w) f.found f.recorded.counted ∙ sym (checked_none _ _ _ e);
  memory = refl;
}

-- What is checked before a byte is read is what a fill of one byte checks.
pub start_range : (W k s : ℕ) → ruled (fill_table W k s 1) ≡ ruled (start_table W k s)
unfolding fill_table start_table checked
start_range W k s = rw (start_outside_lem (W * k) s) refl

pub string_refused_lem : {r : Answer} {ws : List ℕ} {i : ℕ} (W s : ℕ) → ruled (start_table W (length ws) s) ≡ given i
    → answered r ≡ refused i → StringPromise W ws s r ws
string_refused_lem {ws = ws} W s e a = record { answer = a ∙ sym (checked-given _ _ _ e) ∙ sym (string_start W ws s); memory = refl }

-- The first zero stands before the end, or there is none.
zero_said : (z m : ℕ) (xs : List Access) → z ≤ m → accepted (cond (ltb z m) (a_length z) (a_refusal 5)) xs
    ≡ cond (eqb z m) (accepted (a_refusal 5) xs) (accepted (a_length z) xs)
zero_said z m xs h = go (ltb z m) refl
  where
    go : (b : Bool) → ltb z m ≡ b → accepted (cond b (a_length z) (a_refusal 5)) xs
        ≡ cond (eqb z m) (accepted (a_refusal 5) xs) (accepted (a_length z) xs)
    go true e = rw (ne_eqb z m (λ q. absurd (omega (arith, ltb-true z m e)))) refl
    go false e = rw (eq-eqb z m (omega (arith, ltb-false z m e))) refl

-- The addresses of the scan may count from elsewhere.
pub string_kept : {r : Answer} {ws : List ℕ} {out : Said} {g g' : Log} {work : Work} (W s s' : ℕ) → ruled (start_table W (length ws) s) ≡ none
    → Found (cond (ltb (zero_at W ws s) (to_end W ws s)) (a_length (zero_at W ws s)) (a_refusal 5))
    (string_list s' (to_end W ws s) (zero_at W ws s)) g g' out work
    → answered r ≡ replied out work → StringPromise W ws s r ws
string_kept {ws = ws} W s s' e f a = record {
  answer =
      a ∙ ap₂ replied f.found (f.recorded.counted ∙ string_moved s' s (to_end W ws s) (zero_at W ws s))
      ∙ zero_said _ _ _ (first_exists (is_null s (view W ws)) (to_end W ws s)).bound
      ∙ sym (checked_none _ _ _ e) ∙ sym (string_start W ws s);
  memory = refl;
}

-- ---- the logged calls

-- It is refused: nothing was done.
pub log_refused : {r : Answer} {ws es : List ℕ} {i : ℕ} (lines : List Line) (dest : ℕ) (xs : List Access) (words : List ℕ)
    → ruled (log_table lines xs (length es)) ≡ given i → answered r ≡ refused i → LogPromised lines dest xs words ws es r ws es
log_refused lines dest xs words e a = record {
  answer = a ∙ sym (checked-given _ _ _ e);
  memory = sym (checked-given _ _ _ e);
  log = sym (checked-given _ _ _ e);
}

-- The log g that a call makes of the numbers es that it is lent begins at their start.
pub record Fresh (es : List ℕ) (g : Log) : Type 0 where
  pub place : g.place ≡ 0
  pub entries : g.entries.now ≡ es

-- It is accepted: the list was performed, and written from place 0 on.
log_kept : {W : ℕ} {give : (ℕ → ℕ) → ℕ → ℕ} {r : Answer} {xs : List Access} {ws ws' es : List ℕ} {g g' : Log} {work : Work} (lines : List Line)
    (dest : ℕ) (meant : (ℕ → ℕ) → ℕ → ℕ) → Fitting W ws' → ruled (log_table lines xs (length es)) ≡ none → Fresh es g
    → Ran W give xs (lent ws g) (lent ws' g') work → ((y : State) → (perform give xs y).bytes ≡ meant y.bytes)
    → answered r ≡ replied (an_address dest) work
    → LogPromised lines dest xs (packed W (length ws) (meant (view W ws))) ws es r ws' g'.entries.now
log_kept {xs = xs} {es = es} lines dest meant h e f ran m a = record {
  answer = a ∙ ap (replied (an_address dest)) ran.recorded.counted ∙ sym (checked_none _ _ _ e);
  memory = left_words meant h ran m ∙ sym (checked_none _ _ _ e);
  log =
      log_written ran.recorded f.place (rw f.entries (log_accepted lines xs (length es) e).1) ∙ ap (log_after xs) f.entries
      ∙ sym (checked_none _ _ _ e);
}

module _ {W : ℕ} {r : Answer} {ws ws' es : List ℕ} {g g' : Log} {work : Work} (core : Core W) where
  pub copy_log_kept : (dest src n : ℕ) → Fitting W ws'
      → ruled (log_table (copy_table W (length ws) dest src n) (copy_list W dest src n) (length es)) ≡ none → Fresh es g
      → Ran W (moving dest src) (copy_list W dest src n) (lent ws g) (lent ws' g') work
      → answered r ≡ replied (an_address dest) work → CopyLogPromise W ws es dest src n r ws' g'.entries.now
  copy_log_kept dest src n h e f ran a =
      let asked = copy_accepted W (length ws) dest src n (log_accepted _ _ _ e).0 in
      log_kept _ _ (memcpy dest src n) h e f ran (copy_performed core dest src n asked.1) a

  pub move_log_kept : (dest src n : ℕ) → Fitting W ws'
      → ruled (log_table (ranges_table W (length ws) dest src n) (move_list W dest src n) (length es)) ≡ none → Fresh es g
      → Ran W (moving dest src) (move_list W dest src n) (lent ws g) (lent ws' g') work
      → answered r ≡ replied (an_address dest) work → MoveLogPromise W ws es dest src n r ws' g'.entries.now
  move_log_kept dest src n h e f ran a =
      log_kept _ _ (memmove dest src n) h e f ran (move_performed core dest src n) a

  pub fill_log_kept : {b : ℕ} (s : ℕ) (c : ℤ) (n : ℕ) → Fitting W ws'
      → ruled (log_table (fill_table W (length ws) s n) (fill_list W s n) (length es)) ≡ none → Fresh es g → b ≡ byte_of c
      → Ran W (filling b) (fill_list W s n) (lent ws g) (lent ws' g') work
      → answered r ≡ replied (an_address s) work → FillLogPromise W ws es s c n r ws' g'.entries.now
  fill_log_kept s c n h e f q ran a =
      log_kept _ _ (memset s c n) h e f ran (λ (y : State). rw q (fill_performed core s n c y)) a
