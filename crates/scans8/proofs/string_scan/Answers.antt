-- `scans8::string_scan`: how many bytes come before the first zero, or that there is none, and the loads up to it.
-- Invariant: the bytes passed are not zero, and their loads are recorded (`Passed`). Assumes nothing.
use mathlib.Core.Path.{refl}
use native.Mathlib.Omega.{arith}
use Rattle.model.specs.Memory.{view}
use Rattle.words8.specs.Word.{W}
use Rattle.runs.proofs.Passed.{passed_none, passed_all, passed_joinable, byte_at, byte_more, zero_here}
use Rattle.scans8.proofs.Scanning.{scan_found, scan_none}
use Rattle.scans8.proofs.string_scan.Goals as goal

pub loop-n-init : goal.loop-n-init
loop-n-init c = passed_none c.zero-work.ensures

pub returns-then-next-eq0 : goal.returns-then-next-eq0
returns-then-next-eq0 c =
    let inv = c.loop-n.invariant in
    scan_found (view W c.args.words.now) _ (zero_here (view W c.args.words.now) _ inv (omega arith) c.load-next.ensures c.if-next-eq0.true c.join-work.ensures)
    (omega arith)

pub loop-n-preserved : goal.loop-n-preserved
loop-n-preserved c =
    let inv = c.loop-n.invariant in
    byte_more (view W c.args.words.now) _ inv (omega arith) c.load-next.ensures c.if-next-eq0.false c.join-work.ensures

pub join-work-requires : goal.join-work-requires
join-work-requires c =
    let inv = c.loop-n.invariant in
    passed_joinable 1 (byte_at _) (λ j. refl) inv c.load-next.ensures.recorded (omega (arith, c.requires.few))

pub returns : goal.returns
returns c =
    let inv = c.loop-n.invariant in
    scan_none (view W c.args.words.now) _ (passed_all inv (omega arith))
