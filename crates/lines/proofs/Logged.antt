-- A logged call: its answer is written with as many numbers as the log has places for (`log_room`), and the line shows the number of each
-- access of the list, or none where the call is refused (`log_told`). By what the checks find (`ruled`).
-- Assumes nothing.
use mathlib.Core.Path.{◌≡◌, refl, sym, ap, ◌∙◌}
use mathlib.Core.List.{List, [], ◌++◌, map}
use Prim.Native.Nat.{ℕ, ◌≤◌}
use native.Mathlib.Omega.{arith}
use lib.ListN.{length, drop, length-map}
use lib.Seq.{take_at}
use Rattle.model.specs.declared.Answer.{Answer}
use Rattle.model.specs.Access.{Access}
use Rattle.model.specs.Answers.{Said, an_address, a_refusal, answered, accepted, refused}
use Rattle.model.specs.Fit.{aligns, Every, none as empty}
use Rattle.model.specs.Log.{entry_of, log_after}
use Rattle.model.specs.Promises.{LogPromised}
use Rattle.model.specs.Refusals.{Line, Ruling, none, given, checked, ruled, log_table}
use Rattle.model.proofs.RefusalLaws.{checked_none, checked-given, log_accepted}
use Rattle.show.specs.declared.Out.{Out}
use Rattle.show.specs.LoggedText.{written, logged_text}
use Rattle.show.specs.Written.{Wrote}
use Rattle.show.proofs.Counted.{written-within, written_all}
use Rattle.show.proofs.Writing.{wrote_as}
use Rattle.words8.specs.Word.{W}
use Rattle.lines.specs.Lines.{log_line, log_text}

-- Of a log that begins with the numbers of a list, these are shown.
shown : (said : Said) (xs : List Access) (rest : List ℕ) → Every (aligns W) xs
    → logged_text (accepted said xs) (map entry_of xs ++ rest) ≡ log_line said xs
unfolding logged_text
shown said xs rest aligned =
    rw (take_at (map entry_of xs) rest (written (accepted said xs)) (length-map xs entry_of ∙ sym (written_all W said refl aligned))) refl

module _ {lines : List Line} {dest : ℕ} {xs : List Access} {words ws es : List ℕ} {r : Answer} {ws' es' : List ℕ} where
  pub log_room : LogPromised lines dest xs words ws es r ws' es' → written (answered r) ≤ length es
  log_room p = omega (arith, ap written p.answer, go (ruled (log_table lines xs (length es))) refl)
    where
      go : (found : Ruling) → ruled (log_table lines xs (length es)) ≡ found
          → written (checked (log_table lines xs (length es)) refused (accepted (an_address dest) xs)) ≤ length es
      go none e =
          rw (checked_none (log_table lines xs (length es)) refused (accepted (an_address dest) xs) e)
          (omega (arith, written-within (an_address dest) xs, (log_accepted lines xs (length es) e).1))
      go (given i) e =
          rw (checked-given (log_table lines xs (length es)) refused (accepted (an_address dest) xs) e)
          (omega (arith, written-within (a_refusal i) []))

  -- The answer is written as the line's.
  pub log_told : {old new : Out} → LogPromised lines dest xs words ws es r ws' es' → Every (aligns W) xs → Wrote (logged_text (answered r) es') old new
      → Wrote (log_text lines dest xs (length es)) old new
  unfolding log_text log_after
  log_told p aligned w = wrote_as (rw (p.answer, p.log) (go (ruled (log_table lines xs (length es))) refl)) w
    where
      table : List Line
      table = log_table lines xs (length es)

      go : (found : Ruling) → ruled table ≡ found
          → logged_text (checked table refused (accepted (an_address dest) xs)) (checked table (λ i. es) (log_after xs es))
          ≡ checked table (λ i. log_line (a_refusal i) []) (log_line (an_address dest) xs)
      go none e =
          rw (checked_none table refused (accepted (an_address dest) xs) e, checked_none table (λ i. es) (log_after xs es) e, checked_none table (λ i. log_line (a_refusal i) []) (log_line (an_address dest) xs) e)
          (shown (an_address dest) xs (drop (length xs) es) aligned)
      go (given i) e =
          rw (checked-given table refused (accepted (an_address dest) xs) e, checked-given table (λ i. es) (log_after xs es) e, checked-given table (λ i. log_line (a_refusal i) []) (log_line (an_address dest) xs) e)
          (shown (a_refusal i) [] es empty)
