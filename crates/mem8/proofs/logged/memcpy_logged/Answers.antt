-- `mem8::logged::memcpy_logged`: refused by its table, or its list is performed and written into the log (`copy_log_kept`).
-- Assumes nothing.
use mathlib.Core.Path.{◌∙◌}
use native.Mathlib.Omega.{arith}
use lib.ListN.{length}
use Rattle.model.proofs.RefusalLaws.{copy_accepted, log_accepted}
use Rattle.std.proofs.Common.{rules}
use Rattle.model.proofs.LogLaws.{recorded_name}
use Rattle.words8.specs.Word.{W}
use Rattle.runs.proofs.Kept.{ruled_by, log_refused, copy_log_kept}
use Rattle.words8.proofs.WordSize.{core}
use Rattle.mem8.proofs.logged.memcpy_logged.Goals as goal

pub returns : goal.returns
returns c =
    let log = c.new-log.ensures in
    let ran = c.copy-work.ensures in
    let kept =
    copy_log_kept core c.args.dest c.args.src c.args.n (λ i. omega (arith, c.type_inv.mem i))
    (ruled_by c.check_copy_logged.ensures c.in_default.is) record { place = log.place; entries = log.entries } ran c.new.ensures in
    let same = recorded_name ran.recorded ∙ log.same_reference in
    record { answer = kept.answer; memory = kept.memory; log = let written = kept.log in search rules }

pub returns-in-Err : goal.returns-in-Err
returns-in-Err c = log_refused _ _ _ _ (ruled_by c.check_copy_logged.ensures c.in-Err.is) c.refused.ensures

pub copy-work-requires : goal.copy-work-requires
copy-work-requires c =
    let start = c.args in
    (copy_accepted W (length start.mem.now) start.dest start.src start.n
    (log_accepted _ _ _ (ruled_by c.check_copy_logged.ensures c.in_default.is)).0).0
