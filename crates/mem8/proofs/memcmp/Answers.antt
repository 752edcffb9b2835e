-- `mem8::memcmp`: refused by its table, or its list is C's memcmp up to the first difference (`compare_kept`).
-- Assumes nothing.
use mathlib.Core.Path.{ap, ◌∙◌}
use lib.IntN.{ℤ}
use lib.ListN.{length}
use borrow.Author.Rules.{rules}
use mir.Facts.{to_z-of_z}
use mir.Syntax.{w32}
use Rattle.model.specs.Answers.{a_number, replied}
use Rattle.model.proofs.RefusalLaws.{ranges-accepted}
use Rattle.words8.specs.Word.{W}
use Rattle.runs.proofs.Kept.{ruled_by, compare_refused, compare_kept}
use Rattle.mem8.proofs.memcmp.Goals as goal

pub returns-in-Err : goal.returns-in-Err
returns-in-Err c =
    let start = c.args in
    compare_refused W start.s1 start.s2 start.n
    (ruled_by c.check_ranges.ensures c.in-Err.is) c.refused.ensures

pub returns : goal.returns
returns c =
    compare_kept W c.args.s1 c.args.s2 c.args.n
    (ruled_by c.check_ranges.ensures c.in_default.is) c.compare_bytes-compared.ensures
    (c.new.ensures
    ∙ ap (λ (z : ℤ). replied (a_number z) c.compare_bytes-compared.result.work)
    (to_z-of_z {w = w32} (search rules)))

pub compare_bytes-compared-requires : goal.compare_bytes-compared-requires
compare_bytes-compared-requires c =
    let start = c.args in
    ranges-accepted W (length start.mem.now) start.s1 start.s2 start.n
    (ruled_by c.check_ranges.ensures c.in_default.is)
