-- `scans8::c_string_length`: the scan of the words from the one that holds the start, as one of the memory (`scan_moved`).
-- Assumes nothing.
use mathlib.Core.Path.{refl}
use Prim.Native.Nat.{◌/◌}
use Rattle.words8.specs.Word.{W}
use Rattle.scans8.proofs.Scanning.{rest_all, scan_moved}
use Rattle.scans8.proofs.c_string_length.Goals as goal

pub returns : goal.returns
returns c =
    scan_moved c.args.mem.now _ c.args.s _ (rest_all c.args.mem.now (c.args.s / W)) refl
    c.string_scan.ensures
