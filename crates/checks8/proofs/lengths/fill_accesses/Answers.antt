-- `checks8::lengths::fill_accesses` is the length of the list, below the threshold and from it on.
-- Assumes nothing.
use Rattle.words8.specs.Word.{W}
use Rattle.runs.proofs.Rooms.{fill_short_sum, fill_long_sum}
use Rattle.checks8.proofs.lengths.fill_accesses.Goals as goal

pub returns-then-n-lt-WORD_COPY_THRESHOLD : goal.returns-then-n-lt-WORD_COPY_THRESHOLD
returns-then-n-lt-WORD_COPY_THRESHOLD c = fill_short_sum W _ _ c.if-n-lt-WORD_COPY_THRESHOLD.true

pub returns : goal.returns
returns c = fill_long_sum W c.args.s c.args.n c.if-n-lt-WORD_COPY_THRESHOLD.false
