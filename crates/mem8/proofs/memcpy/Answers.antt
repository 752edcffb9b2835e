-- `mem8::memcpy`: refused by its table, or its list is performed forward, which is C's memcpy (`copy_kept`).
-- Assumes nothing.
use native.Mathlib.Omega.{arith}
use lib.ListN.{length}
use Rattle.model.proofs.RefusalLaws.{copy_accepted}
use Rattle.words8.specs.Word.{W}
use Rattle.runs.proofs.Kept.{ruled_by, copy_refused, copy_kept}
use Rattle.words8.proofs.WordSize.{core}
use Rattle.mem8.proofs.memcpy.Goals as goal

pub returns-in-Err : goal.returns-in-Err
returns-in-Err c =
    let start = c.args in
    copy_refused W start.dest start.src start.n
    (ruled_by c.check_copy.ensures c.in-Err.is) c.refused.ensures

pub returns : goal.returns
returns c =
    copy_kept core c.args.dest c.args.src c.args.n (λ i. omega (arith, c.type_inv.mem i))
    (ruled_by c.check_copy.ensures c.in_default.is) c.copy-work.ensures c.new.ensures

pub copy-work-requires : goal.copy-work-requires
copy-work-requires c =
    let start = c.args in
    (copy_accepted W (length start.mem.now) start.dest start.src start.n
    (ruled_by c.check_copy.ensures c.in_default.is)).0
