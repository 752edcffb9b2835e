-- `lines::memory::byte_at`: a load of one byte is that byte. Assumes nothing.
use mathlib.Core.Path.{◌∙◌}
use Rattle.model.proofs.ByteLaws.{read_le_one}
use Rattle.model.proofs.MemoryLaws.{view_lt}
use Rattle.lines.proofs.memory.byte_at.Goals as goal

pub overflow_cast-result : goal.overflow_cast-result
overflow_cast-result c = rw (c.load.ensures.found ∙ read_le_one _ _) (record { fits = view_lt _ _ _ })

pub returns : goal.returns
returns c = c.load.ensures.found ∙ read_le_one _ _
