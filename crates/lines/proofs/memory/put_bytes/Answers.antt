-- `lines::memory::put_bytes` sets the bytes from an address on.
-- Invariant: the first i bytes are put. The measure is what is left. Assumes nothing.
use mathlib.Core.Path.{◌≡◌}
use Prim.Native.Nat.{◌/◌}
use lib.ListN.{length}
use Rattle.lines.proofs.BytesLaws.{put_none, put_then}
use native.Mathlib.Omega.{arith}
use Rattle.lines.proofs.memory.put_bytes.Goals as goal

pub loop-i-init : goal.loop-i-init
loop-i-init c = (put_none _ _ _ _, omega arith)

pub put_next-i-requires : goal.put_next-i-requires
put_next-i-requires c = (
  rw c.loop-i.invariant.0.size c.requires.0,
  c.requires.1,
  c.loop-i-test.true,
)

pub loop-i-smaller : goal.loop-i-smaller
loop-i-smaller c = omega (arith, c.put_next-i.ensures.more, c.put_next-i.ensures.few)

pub loop-i-preserved : goal.loop-i-preserved
loop-i-preserved c = (
  put_then c.loop-i.invariant.0 c.put_next-i.ensures,
  c.put_next-i.ensures.few,
)

pub shape_of-mem : goal.shape_of-mem
shape_of-mem c = c.loop-i.invariant.0.size

pub returns : goal.returns
returns c =
    let end : c.loop-i.i ≡ length c.args.hex.now / 2 = omega arith in
    rw (← end) c.loop-i.invariant.0
