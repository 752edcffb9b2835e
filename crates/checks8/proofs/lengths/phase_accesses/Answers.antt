-- `checks8::lengths::phase_accesses` adds up head, words and tail; no sum wraps (`words_small`).
-- Assumes nothing.
use Prim.Native.Nat.{◌-◌, ◌/◌}
use native.Mathlib.Omega.{arith}
use Rattle.words8.specs.Word.{W}
use Rattle.runs.proofs.Rooms.{words_small}
use Rattle.checks8.proofs.lengths.phase_accesses.Goals as goal

pub overflow_add-result : goal.overflow_add-result
overflow_add-result c = omega (arith, c.word_accesses.ensures, words_small W c.args.offset ((c.args.n - c.args.head) / W))

pub overflow_add-result-2 : goal.overflow_add-result-2
overflow_add-result-2 c = omega (arith, c.word_accesses.ensures, words_small W c.args.offset ((c.args.n - c.args.head) / W))
