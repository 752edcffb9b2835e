-- `commands::say`: each number is matched by its row. Assumes nothing.
use Rattle.std.proofs.Common.{◌≡◌, arith, to_z-of_z, w32}
use Rattle.commands.proofs.say.Goals as goal

pub returns-in-2 : goal.returns-in-2
returns-in-2 c = rw (c.in-2.is, to_z-of_z {w = w32} (record { sfits = c.value_at.type_inv }), c.value_at.ensures)

pub returns-in_default : goal.returns-in_default
returns-in_default c = let last : c.args.row ≡ 11 = omega arith in rw last
