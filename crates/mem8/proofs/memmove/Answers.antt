-- `mem8::memmove`: refused by its table, or its list is performed, which is C's memmove (`move_kept`).
-- Assumes nothing.
use native.Mathlib.Omega.{arith}
use lib.ListN.{length}
use Rattle.model.proofs.RefusalLaws.{ranges-accepted}
use Rattle.words8.specs.Word.{W}
use Rattle.runs.proofs.Kept.{ruled_by, move_refused, move_kept}
use Rattle.words8.proofs.WordSize.{core}
use Rattle.mem8.proofs.memmove.Goals as goal

pub returns-in-Err : goal.returns-in-Err
returns-in-Err c =
    let start = c.args in
    move_refused W start.dest start.src start.n
    (ruled_by c.check_ranges.ensures c.in-Err.is) c.refused.ensures

pub returns : goal.returns
returns c =
    move_kept core c.args.dest c.args.src c.args.n (λ i. omega (arith, c.type_inv.mem i))
    (ruled_by c.check_ranges.ensures c.in_default.is) c.move_bytes-work.ensures c.new.ensures

pub move_bytes-work-requires : goal.move_bytes-work-requires
move_bytes-work-requires c =
    let start = c.args in
    ranges-accepted W (length start.mem.now) start.dest start.src start.n
    (ruled_by c.check_ranges.ensures c.in_default.is)
