-- `show::Out::write_log` writes the numbers, each after a space. Invariant: those before the index are written.
-- There is room for each, since those before it took no more than theirs (`each_few`).
-- Assumes nothing.
use Rattle.std.proofs.Common.{take}
use Rattle.std.specs.Prelude.{flat_map}
use Rattle.show.specs.Written.{Wrote}
use Rattle.show.specs.LoggedText.{spaced}
use Rattle.show.proofs.Out.write_log.Given as goal

abbrev pub invariant-loop-number : goal.invariant-loop-number
invariant-loop-number l = Wrote (flat_map spaced (take l.number-index l.log)) l.initial.self l.self
