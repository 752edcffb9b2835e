-- `lines::memory::write_bytes` writes the bytes from an address on.
-- Invariant: the digits of the first i bytes are written. Assumes nothing.
use Rattle.model.specs.Memory.{view}
use Rattle.words8.specs.Word.{W}
use Rattle.show.specs.Written.{Wrote}
use Rattle.lines.specs.Bytes.{hex_text}
use Rattle.lines.proofs.memory.write_bytes.Given as goal

abbrev pub invariant-loop-i : goal.invariant-loop-i
invariant-loop-i l = Wrote (hex_text (view W l.mem) l.address l.i) l.initial.out l.out
