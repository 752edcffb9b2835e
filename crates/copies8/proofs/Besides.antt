-- Bytes that are copied besides what a record speaks of: they are in the log too, and so there must be none.
-- Assumes nothing.
use mathlib.Core.Path.{◌≡◌, refl, ◌∙◌}
use mathlib.Core.Bool.{Bool, true}
use mathlib.Core.List.{List, []}
use Prim.Native.Nat.{ℕ, ◌/◌}
use Rattle.model.specs.declared.Work.{Work}
use Rattle.model.specs.Access.{Access}
use Rattle.model.specs.Lists.{upto, pairs}
use Rattle.model.specs.Log.{logged}
use Rattle.model.specs.Perform.{perform, moving}
use Rattle.model.specs.Tally.{tally}
use Rattle.runs.specs.Ran.{Lent, Ran}
use Rattle.runs.proofs.Turns.{pairs_none}

-- From one state to another, m bytes were copied. From a state to itself, none.
pub record Besides (W : ℕ) (z z' : Lent) : Type 0 where
  pub up : Bool
  pub d : ℕ
  pub s : ℕ
  pub m : ℕ
  pub work : Work
  pub ran : Ran W (moving d s) (pairs up 1 d s (m / 1)) z z' work

abbrev pub besides_none : {W : ℕ} {z : Lent} → Besides W z z
besides_none = record { up = true; d = 0; s = 0; m = 0; work = tally []; ran = pairs_none true 1 0 0 refl }

-- If they are none, what has run before them is all.
pub none_more : {W : ℕ} {give : (ℕ → ℕ) → ℕ → ℕ} {xs : List Access} {z z' z'' : Lent} {a : Work} → Ran W give xs z z' a
    → (x : Besides W z' z'') → x.m ≡ 0 → Ran W give xs z z'' a
unfolding pairs upto perform logged
none_more {W} {z' = z'} {z''} p x e = record {
  size = none.size ∙ p.size;
  performed = λ held h. p.performed held h ∙ none.performed held h;
  holding = λ held h. h;
  recorded = record { noted = none.recorded.noted ∙ p.recorded.noted; counted = p.recorded.counted };
}
  where
    none : Ran W (moving x.d x.s) (pairs x.up 1 x.d x.s 0) z' z'' x.work
    none = rw e at x.ran
