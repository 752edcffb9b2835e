-- `scans8::compare_bytes`: the difference of the first unequal pair, or 0, and the loads up to it.
-- Invariant: the pairs passed are equal, and their loads are recorded (`Passed`). Assumes nothing.
use mathlib.Core.Path.{refl}
use Prim.Native.Nat.{◌<◌}
use native.Mathlib.Omega.{arith}
use Rattle.model.specs.Memory.{view}
use Rattle.model.proofs.MemoryLaws.{view_lt}
use Rattle.words8.specs.Word.{W}
use Rattle.runs.proofs.Passed.{PairLoaded, passed_none, passed_joinable, pair_at, pair_loaded, pair-unequal, pair_equal, none_unequal}
use Rattle.scans8.proofs.Differences.{differ_read}
use Rattle.scans8.proofs.compare_bytes.Goals as goal
use Rattle.scans8.proofs.compare_bytes.Goals.{After-join-pair}

pair : (c : After-join-pair) → let start = c.args in let loop = c.loop-i in let second = c.load-second in PairLoaded (view W start.mem.now) start.s1 start.s2 loop.i c.load-first.result.value second.result.value loop.log second.new.log c.join-pair.result
pair c = pair_loaded _ _ _ _ c.load-first.ensures c.load-second.ensures c.join-pair.ensures

bytes : (c : After-join-pair) → (c.load-first.result.value < 256) × (c.load-second.result.value < 256)
bytes c = (rw (pair c).first (view_lt W _ _), rw (pair c).second (view_lt W _ _))

pub loop-i-init : goal.loop-i-init
loop-i-init c = passed_none c.zero-work.ensures

pub join-work-requires : goal.join-work-requires
join-work-requires c =
    let inv = c.loop-i.invariant in
    passed_joinable 2 (pair_at _ _) (λ j. refl) inv (pair (goal.at.join-work-requires c).After-join-pair).recorded
    (omega (arith, c.requires.0.few, c.requires.0.inside))

pub byte_difference-value-requires : goal.byte_difference-value-requires
byte_difference-value-requires c = bytes (goal.at.byte_difference-value-requires c).After-join-pair

pub returns-then-a-b : goal.returns-then-a-b
returns-then-a-b c =
    let inv = c.loop-i.invariant in
    pair-unequal inv (omega arith) (pair (goal.at.returns-then-a-b c).After-join-pair) c.if-a-b.true c.join-work.ensures
    (differ_read _ _ (bytes (goal.at.returns-then-a-b c).After-join-pair).0 (bytes (goal.at.returns-then-a-b c).After-join-pair).1 c.byte_difference-value.ensures)

pub loop-i-preserved : goal.loop-i-preserved
loop-i-preserved c =
    let inv = c.loop-i.invariant in
    pair_equal inv (omega arith) (pair (goal.at.loop-i-preserved c).After-join-pair) c.if-a-b.false c.join-work.ensures

pub returns : goal.returns
returns c = none_unequal _ _ _ c.loop-i.invariant (omega arith) refl
