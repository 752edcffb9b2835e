-- `commands::fields::after_fields` passes over the first i fields.
-- Invariant: what comes after the fields that are still to pass is what is looked for. Assumes nothing.
use Rattle.std.proofs.Common.{◌≡◌, ◌-◌}
use Rattle.commands.specs.Fields.{after_fields}
use Rattle.commands.proofs.fields.after_fields.Given as goal

abbrev pub invariant-loop : goal.invariant-loop
invariant-loop l = after_fields l.line l.i ≡ after_fields l.s (l.i - l.counter)
