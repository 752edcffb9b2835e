-- `lines::memory::put_bytes` sets the bytes from an address on.
-- Invariant: the first i bytes are put. The measure is what is left. Assumes nothing.
use Prim.Native.Nat.{◌-◌, ◌/◌, ◌≤◌}
use lib.ListN.{length}
use Rattle.words8.specs.Word.{W}
use Rattle.lines.specs.Bytes.{Put}
use Rattle.lines.proofs.memory.put_bytes.Given as goal

abbrev pub invariant-loop-i : goal.invariant-loop-i
invariant-loop-i l = (Put W l.hex l.address l.i l.initial.mem l.mem) × (l.i ≤ length l.hex / 2)

abbrev pub decreases-loop-i : goal.decreases-loop-i
decreases-loop-i l = length l.hex / 2 - l.i
