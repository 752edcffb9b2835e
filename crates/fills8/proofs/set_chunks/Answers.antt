-- `fills8::set_chunks` makes the accesses of its list, and leaves what performing it leaves. Invariant: so many chunks are stored.
-- Assumes nothing.
use mathlib.Core.Path.{◌≡◌}
use mathlib.Core.List.{[], ◌∷◌}
use Prim.Native.Nat.{ℕ, ◌+◌, ◌*◌}
use native.Mathlib.Nat.{le_of_dvd, dvd_of_mod-eq-zero}
use native.Mathlib.Omega.{arith}
use Rattle.model.specs.declared.Work.{Work}
use Rattle.model.specs.Access.{store}
use Rattle.model.specs.Fit.{Fit}
use Rattle.model.specs.Perform.{filling}
use Rattle.words8.specs.Word.{W}
use Rattle.runs.specs.Ran.{Lent, lent, Ran, Stored}
use Rattle.runs.proofs.RanLaws.{ran_fill}
use Rattle.runs.proofs.Turns.{filled_none, filled_more, filled_fit, filled_joinable}
use Rattle.fills8.proofs.set_chunks.Goals as goal
use Rattle.fills8.proofs.set_chunks.Goals.{After-store-turn}

-- A place may be written in another way, if the numbers are equal.
fit_at : {k w d d' : ℕ} → Fit W k w d → d ≡ d' → Fit W k w d'
fit_at f e = rw e at f

stored_at : {w d d' v : ℕ} {z z' : Lent} {a : Work} → Stored W w d v z z' a → d ≡ d' → Stored W w d' v z z' a
stored_at q e = rw e at q

-- The chunk is stored.
turn : (g : _) (c : After-store-turn g) → Ran W (filling c.args.c) (store g.row.SIZE (c.args.s + g.row.SIZE * c.loop-i.i) ∷ []) (lent c.loop-i.mem c.loop-i.log) (lent c.store-turn.new.mem c.store-turn.new.log) c.store-turn.result
turn g c =
    ran_fill _ W (omega arith) (le_of_dvd {m = g.row.SIZE} {n = W} (omega arith) (dvd_of_mod-eq-zero g.row.SIZE c.requires.1.0))
    c.broadcast-word.ensures (stored_at c.store-turn.ensures (grind arith))

pub loop-i-init : goal.loop-i-init
loop-i-init g c = filled_none g.row.SIZE _ c.zero-work.ensures

pub store-turn-requires : goal.store-turn-requires
store-turn-requires g c =
    fit_at (filled_fit _ _ _ c.requires.0 c.requires.1.0 c.requires.1.1 c.loop-i.invariant (grind arith)) (grind arith)

pub join-work-requires : goal.join-work-requires
join-work-requires g c = filled_joinable _ _ _ c.loop-i.invariant (turn g (goal.at.join-work-requires g c).After-store-turn) (grind arith)

pub loop-i-preserved : goal.loop-i-preserved
loop-i-preserved g c = filled_more _ _ _ c.loop-i.invariant (turn g (goal.at.loop-i-preserved g c).After-store-turn) c.join-work.ensures
