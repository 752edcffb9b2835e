-- What a scan that has stopped answers; and a scan of the words from the one that holds the start, as one of the whole memory.
-- Assumes nothing.
use mathlib.Core.Path.{◌≡◌, sym, ap, ap₂, subst, ◌∙◌}
use mathlib.Core.List.{List}
use Prim.Native.Nat.{ℕ, ◌+◌, ◌-◌, ◌/◌, ◌%◌, ◌<◌}
use native.Mathlib.Omega.{arith}
use lib.ListN.{length, take, drop, length-drop}
use lib.Seq.{take-length}
use borrow.Author.Tests.{lt-ltb, le-ltb}
use Rattle.model.specs.declared.Work.{Work}
use Rattle.model.specs.Lists.{string_list}
use Rattle.model.specs.Meaning.{is_null, strlen}
use Rattle.model.specs.Memory.{view}
use Rattle.runs.specs.Ran.{Found}
use Rattle.model.specs.Refusals.{to_end, zero_at}
use Rattle.model.specs.Access.{Access}
use Rattle.model.specs.declared.Log.{Log}
use Rattle.model.specs.Log.{Recorded}
use Rattle.model.proofs.MemoryLaws.{view-drop}
use Rattle.words8.specs.Word.{W}
use Rattle.runs.proofs.Passed.{Stopped, byte_at, string_recorded, strlen_moved}
use Rattle.std.specs.Prelude.{Option, Some, None}
use Rattle.scans8.specs.Scans.{scan_of}

pub scan_found : {n i : ℕ} {g g' : Log} {a : Work} (f : ℕ → ℕ) (s : ℕ) → Stopped (is_null s f) (byte_at s) n i g g' a → i < n
    → Found (scan_of (strlen s n f) n) (string_list s n (strlen s n f)) g g' (Some i) a
scan_found {n} {i} f s p l =
    record { found = sym (ap (λ (z : ℕ). scan_of z n) p.place ∙ simp (lt-ltb i n l)); recorded = string_recorded f s p }

pub scan_none : {n : ℕ} {g g' : Log} {a : Work} (f : ℕ → ℕ) (s : ℕ) → Stopped (is_null s f) (byte_at s) n n g g' a
    → Found (scan_of (strlen s n f) n) (string_list s n (strlen s n f)) g g' None a
scan_none {n} f s p =
    record { found = sym (ap (λ (z : ℕ). scan_of z n) p.place ∙ simp (le-ltb n n (omega arith))); recorded = string_recorded f s p }

-- All that is left from word i on, as the code takes it.
pub rest_all : (ws : List ℕ) (i : ℕ) → take (length ws - i) (drop i ws) ≡ drop i ws
rest_all ws i = ap (λ (n : ℕ). take n (drop i ws)) (sym (length-drop i ws)) ∙ take-length (drop i ws)

-- s / W and s % W: where the start's word stands, and the start in it.
pub scan_moved : {r : Option ℕ} {g g' : Log} {a : Work} (ws part : List ℕ) (s s' : ℕ) → part ≡ drop (s / W) ws → s' ≡ s % W
    → Found (scan_of (zero_at W part s') (to_end W part s')) (string_list s' (to_end W part s') (zero_at W part s')) g g' r a
    → Found (scan_of (zero_at W ws s) (to_end W ws s)) (string_list s' (to_end W ws s) (zero_at W ws s)) g g' r a
scan_moved {g = g} {g'} {a} ws part s s' e f p = record {
  found = p.found ∙ ap₂ scan_of zeros ends;
  recorded = subst (λ (xs : List Access). Recorded xs g g' a) (ap₂ (string_list s') ends zeros) p.recorded;
}
  where
    ends : to_end W part s' ≡ to_end W ws s
    ends = omega (arith, ap length e, length-drop (s / W) ws)

    same : (j : ℕ) → view W part (s' + j) ≡ view W ws (s + j)
    same j =
        ap (λ (vs : List ℕ). view W vs (s' + j)) e ∙ view-drop W (omega arith) ws (s / W) (s' + j) ∙ ap (view W ws) (omega arith)

    zeros : zero_at W part s' ≡ zero_at W ws s
    zeros = strlen_moved (view W part) (view W ws) s' s (to_end W part s') same ∙ ap (λ (m : ℕ). strlen s m (view W ws)) ends
