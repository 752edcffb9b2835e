-- `model::Log::enter` is `entered`, at the end of the log and before it.
-- Assumes nothing.
use native.Mathlib.Omega.{arith}
use Rattle.model.proofs.LogLaws.{entered_here, entered-past}
use Rattle.model.proofs.Log.enter.Goals as goal

pub returns-then-self-eq0 : goal.returns-then-self-eq0
returns-then-self-eq0 c = entered-past _ _ (omega (arith, c.if-self-eq0.true))

pub returns-then-at-self : goal.returns-then-at-self
returns-then-at-self c = entered-past _ _ c.if-at-self.true

pub returns : goal.returns
returns c = entered_here _ _ c.if-at-self.false
