-- `mem8::strlen`: refused by its table, or its list is C's strlen up to the first zero, or to the end (`string_kept`).
-- Assumes nothing.
use mathlib.Core.Path.{◌≡◌, refl, ap, ◌∙◌}
use mathlib.Core.Bool.{Bool, true, false, cond}
use Prim.Native.Nat.{ℕ, ◌%◌}
use lib.Dec.{ltb}
use lib.ListN.{length}
use Rattle.model.specs.Answers.{ruling_of, a_length, a_refusal}
use Rattle.model.specs.Refusals.{ruled, to_end, zero_at, fill_table, start_table}
use Rattle.model.proofs.RefusalLaws.{string_accepted}
use Rattle.words8.specs.Word.{W}
use Rattle.runs.proofs.Kept.{ruled_by, start_range, string_refused_lem, string_kept}
use Rattle.std.specs.Prelude.{Some, None}
use Rattle.scans8.specs.Scans.{scan_of}
use Rattle.mem8.specs.Scanned.{scan_said}
use Rattle.mem8.proofs.strlen.Goals as goal
use Rattle.mem8.proofs.strlen.Goals.{After-check_range}

-- What a scan for the first zero says: its place, or refusal 5 where it is the end.
scan_said-scan_of : (z m : ℕ) → scan_said (scan_of z m) ≡ cond (ltb z m) (a_length z) (a_refusal 5)
scan_said-scan_of z m = go (ltb z m)
  where
    go : (b : Bool) → scan_said (cond b (Some z) None) ≡ cond b (a_length z) (a_refusal 5)
    go true = refl
    go false = refl

-- What was checked is the start.
started : (c : After-check_range) → ruling_of c.check_range.result ≡ ruled (start_table W (length c.args.mem.now) c.args.s)
unfolding fill_table
started c = c.check_range.ensures ∙ start_range W (length c.args.mem.now) c.args.s

pub returns-in-Err : goal.returns-in-Err
returns-in-Err c =
    string_refused_lem W c.args.s (ruled_by (started (goal.at.returns-in-Err c).After-check_range) c.in-Err.is)
    c.refused.ensures

pub returns : goal.returns
returns c =
    let start = c.args in
    string_kept W start.s (start.s % W) (ruled_by (started (goal.at.returns c).After-check_range) c.in_default.is)
    (record {
      found =
          c.scan_outcome.ensures ∙ ap scan_said c.c_string_length-scanned.ensures.found
          ∙ scan_said-scan_of (zero_at W start.mem.now start.s) (to_end W start.mem.now start.s);
      recorded = c.c_string_length-scanned.ensures.recorded;
    }) c.new.ensures

pub c_string_length-scanned-requires : goal.c_string_length-scanned-requires
c_string_length-scanned-requires c =
    string_accepted W (length c.args.mem.now) c.args.s
    (ruled_by (started (goal.at.c_string_length-scanned-requires c).After-check_range) c.in_default.is)
