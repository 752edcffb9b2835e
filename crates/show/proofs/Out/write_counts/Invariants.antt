-- `show::Out::write_counts` writes the word and the first count, and then the others, each with a slash before it.
-- Invariant: those before the index are written. Assumes nothing.
use Rattle.std.proofs.Common.{take, ◌++◌, get_or}
use Rattle.std.specs.Prelude.{flat_map}
use Rattle.show.specs.Written.{Wrote}
use Rattle.show.specs.Numbers.{decimal}
use Rattle.show.specs.AnswerText.{slashed}
use Rattle.show.proofs.Out.write_counts.Given as goal

abbrev pub invariant-loop-count : goal.invariant-loop-count
invariant-loop-count l =
    Wrote ((l.word ++ decimal (get_or l.counts 0 0)) ++ flat_map slashed (take l.count-index l.count-items)) l.fn.self l.self
