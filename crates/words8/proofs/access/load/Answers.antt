-- `words8::access::load`: the bytes of an access that fits lie inside one word.
-- Assumes nothing.
use mathlib.Core.Path.{◌∙◌}
use native.Mathlib.Omega.{arith}
use Rattle.model.proofs.WordLaws.{one_word, part_loaded, width_some}
use Rattle.words8.proofs.access.load.Goals as goal

pub part-value-requires : goal.part-value-requires
part-value-requires c = (
  omega (arith, one_word (omega arith) c.requires.aligned),
  omega (arith, width_some (omega arith) c.requires.aligned),
)

pub returns : goal.returns
returns c = record {
  found = c.part-value.ensures ∙ part_loaded (omega arith) c.args.mem.now c.requires.aligned;
  recorded = c.load_of-work.ensures;
}
