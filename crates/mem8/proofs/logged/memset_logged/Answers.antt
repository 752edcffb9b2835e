-- `mem8::logged::memset_logged`: refused by its table, or its list is performed with the byte c mod 256 and written into the log
-- (`fill_log_kept`).
-- Assumes nothing.
use mathlib.Core.Path.{ap, ◌∙◌}
use native.Mathlib.Omega.{arith}
use lib.ListN.{length}
use mir.Facts.{to_z-of_z}
use Rattle.model.specs.Memory.{byte_of}
use Rattle.model.proofs.RefusalLaws.{fill_accepted, log_accepted}
use Rattle.std.proofs.Common.{rules}
use Rattle.model.proofs.LogLaws.{recorded_name}
use Rattle.words8.specs.Word.{W}
use Rattle.runs.proofs.Kept.{ruled_by, log_refused, fill_log_kept}
use Rattle.words8.proofs.WordSize.{core}
use Rattle.mem8.proofs.logged.memset_logged.Goals as goal

pub returns-in-Err : goal.returns-in-Err
returns-in-Err c = log_refused _ _ _ _ (ruled_by c.check_fill_logged.ensures c.in-Err.is) c.refused.ensures

pub set_bytes-work-requires : goal.set_bytes-work-requires
set_bytes-work-requires c =
    let start = c.args in
    fill_accepted W (length start.mem.now) start.s start.n
    (log_accepted _ _ _ (ruled_by c.check_fill_logged.ensures c.in_default.is)).0

pub returns : goal.returns
returns c =
    let log = c.new-log.ensures in
    let ran = c.set_bytes-work.ensures in
    let kept =
    fill_log_kept core c.args.s c.args.c c.args.n (λ i. omega (arith, c.type_inv.mem i))
    (ruled_by c.check_fill_logged.ensures c.in_default.is) record { place = log.place; entries = log.entries } (c.fill_byte.ensures ∙ ap byte_of (to_z-of_z c.ranges.c)) ran c.new.ensures in
    let same = recorded_name ran.recorded ∙ log.same_reference in
    record { answer = kept.answer; memory = kept.memory; log = let written = kept.log in search rules }
