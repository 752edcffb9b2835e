-- `commands::fields::after_fields` passes over the first i fields.
-- Invariant: what comes after the fields that are still to pass is what is looked for. Assumes nothing.
use Rattle.std.proofs.Common.{sym, ◌∙◌}
use Rattle.commands.proofs.Reading.{after_next, after_none}
use Rattle.commands.proofs.fields.after_fields.Goals as goal

pub loop-preserved : goal.loop-preserved
loop-preserved c = c.loop.invariant ∙ after_next _ _ _ _ c.loop-test.true c.first_field.ensures.ends

pub returns : goal.returns
returns c = sym (c.loop.invariant ∙ after_none _ _ _ c.loop-test.false)
