-- `mem8::memset`: refused by its table, or its list is performed with the byte c mod 256, which is C's memset (`fill_kept`).
-- Assumes nothing.
use mathlib.Core.Path.{◌≡◌, ap, ◌∙◌}
use native.Mathlib.Omega.{arith}
use lib.ListN.{length}
use mir.Facts.{to_z-of_z}
use Rattle.model.specs.Answers.{ruling_of}
use Rattle.model.specs.Memory.{byte_of}
use Rattle.model.specs.Refusals.{ruled, fill_table}
use Rattle.model.proofs.RefusalLaws.{fill_accepted}
use Rattle.words8.specs.Word.{W}
use Rattle.runs.proofs.Kept.{ruled_by, fill_refused, fill_kept}
use Rattle.words8.proofs.WordSize.{core}
use Rattle.mem8.proofs.memset.Goals as goal
use Rattle.mem8.proofs.memset.Goals.{After-check_range}

-- What was checked is a fill's table.
ranged : (c : After-check_range) → ruling_of c.check_range.result ≡ ruled (fill_table W (length c.args.mem.now) c.args.s c.args.n)
unfolding fill_table
ranged c = c.check_range.ensures

pub returns-in-Err : goal.returns-in-Err
returns-in-Err c =
    let start = c.args in
    fill_refused W start.s start.c start.n
    (ruled_by (ranged (goal.at.returns-in-Err c).After-check_range) c.in-Err.is) c.refused.ensures

pub returns : goal.returns
returns c =
    fill_kept core c.args.s c.args.c c.args.n (λ i. omega (arith, c.type_inv.mem i))
    (ruled_by (ranged (goal.at.returns c).After-check_range) c.in_default.is)
    (c.fill_byte.ensures ∙ ap byte_of (to_z-of_z c.ranges.c)) c.set_bytes-work.ensures c.new.ensures

pub set_bytes-work-requires : goal.set_bytes-work-requires
set_bytes-work-requires c =
    let start = c.args in
    fill_accepted W (length start.mem.now) start.s start.n
    (ruled_by (ranged (goal.at.set_bytes-work-requires c).After-check_range) c.in_default.is)
