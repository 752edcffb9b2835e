-- `checks8::lengths::word_accesses`: two for each word, and where the source is not aligned two partial loads in the place of one load.
-- Assumes nothing.
use Prim.Native.Nat.{◌-◌}
use native.Mathlib.Omega.{arith}
use Rattle.words8.specs.Word.{W}
use Rattle.runs.proofs.Rooms.{aligned_sum, misaligned_sum, ones_small}
use Rattle.checks8.proofs.lengths.word_accesses.Goals as goal

pub returns-then-offset-eq0 : goal.returns-then-offset-eq0
returns-then-offset-eq0 c = aligned_sum W _ _ c.if-offset-eq0.true

pub overflow_add-result : goal.overflow_add-result
overflow_add-result c = omega (arith, c.ones-2.ensures, c.ones.ensures, ones_small c.args.offset, ones_small (W - c.args.offset))

pub overflow_add-result-2 : goal.overflow_add-result-2
overflow_add-result-2 c = omega (arith, c.ones-2.ensures, c.ones.ensures, ones_small c.args.offset, ones_small (W - c.args.offset))

pub overflow_add-result-3 : goal.overflow_add-result-3
overflow_add-result-3 c = omega (arith, c.ones-2.ensures, c.ones.ensures, ones_small c.args.offset, ones_small (W - c.args.offset))

pub returns : goal.returns
returns c = rw (c.ones.ensures, c.ones-2.ensures) (misaligned_sum W _ _ c.if-offset-eq0.false)
