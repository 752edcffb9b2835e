-- `words8::access::store`: one word is changed, at the bytes of the access.
-- Assumes nothing.
use native.Mathlib.Omega.{arith}
use lib.ListN.{length-set}
use Rattle.model.proofs.WordLaws.{one_word, part_stored, width_some}
use Rattle.words8.proofs.access.store.Goals as goal

pub with_part-requires : goal.with_part-requires
with_part-requires c = (
  omega (arith, one_word (omega arith) c.requires.aligned),
  omega (arith, width_some (omega arith) c.requires.aligned),
)

pub returns : goal.returns
returns c = record {
  size = simp length-set;
  bytes = part_stored (omega arith) c.args.mem.now c.args.value c.with_part.result c.requires c.with_part.ensures;
  recorded = c.store_of.ensures;
}
