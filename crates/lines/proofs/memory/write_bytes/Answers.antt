-- `lines::memory::write_bytes` writes the bytes from an address on.
-- Invariant: the digits of the first i bytes are written. Assumes nothing.
use Rattle.std.proofs.Common.{arith}
use Rattle.show.proofs.Writing.{wrote_within}
use Rattle.lines.proofs.BytesLaws.{unwritten, hex_few, hex_more}
use Rattle.lines.proofs.memory.write_bytes.Goals as goal

pub loop-i-init : goal.loop-i-init
loop-i-init c = unwritten _ _ _ (omega arith)

pub write_byte-requires : goal.write_byte-requires
write_byte-requires c =
    let so_far = wrote_within (hex_few _ _ _) c.loop-i.invariant in
    omega arith

pub loop-i-preserved : goal.loop-i-preserved
loop-i-preserved c = hex_more _ _ _ _ c.loop-i.invariant c.byte_at.ensures c.write_byte.ensures
