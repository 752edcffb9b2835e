-- `calls::Session::run` can count each line that it answers. The loop's invariant: no more lines have been answered than there have been
-- turns. Assumes nothing.
use Rattle.std.proofs.Common.{◌≤◌}
use Rattle.calls.proofs.Session.run.Given as goal

abbrev pub invariant-loop-turn : goal.invariant-loop-turn
invariant-loop-turn g l = l.self.stream.number ≤ l._turn
