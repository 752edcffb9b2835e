-- `checks8::lengths::ones` adds up the binary digits below eight.
-- Assumes nothing.
use Rattle.runs.proofs.Rooms.{ones_sum}
use Rattle.checks8.proofs.lengths.ones.Goals as goal

pub returns : goal.returns
returns c = ones_sum _
