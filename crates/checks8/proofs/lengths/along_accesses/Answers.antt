-- `checks8::lengths::along_accesses` is the length of the list, below the threshold and from it on, in either direction.
-- Assumes nothing.
use mathlib.Core.Path.{ap, ◌∙◌}
use mathlib.Core.Bool.{true, false, not}
use borrow.Author.Tests.{eq-eqb, ne_eqb}
use Rattle.runs.proofs.Rooms.{short_sum, long_sum}
use Rattle.words8.proofs.WordSize.{core}
use Rattle.checks8.proofs.lengths.along_accesses.Goals as goal

pub returns-then-n-lt-WORD_COPY_THRESHOLD : goal.returns-then-n-lt-WORD_COPY_THRESHOLD
returns-then-n-lt-WORD_COPY_THRESHOLD g c = short_sum core _ _ _ _ c.if-n-lt-WORD_COPY_THRESHOLD.true

pub returns-then-this-ne0 : goal.returns-then-this-ne0
returns-then-this-ne0 g c =
    rw (ap not (ne_eqb g.row.UP 0 c.if-this-ne0.true))
    (c.phase_accesses.ensures ∙ long_sum core true c.args.dest c.args.src c.args.n c.if-n-lt-WORD_COPY_THRESHOLD.false)

pub returns-else-this-ne0 : goal.returns-else-this-ne0
returns-else-this-ne0 g c =
    rw (ap not (eq-eqb g.row.UP 0 c.if-this-ne0.false))
    (c.phase_accesses-else-this-ne0.ensures ∙ long_sum core false c.args.dest c.args.src c.args.n c.if-n-lt-WORD_COPY_THRESHOLD.false)
