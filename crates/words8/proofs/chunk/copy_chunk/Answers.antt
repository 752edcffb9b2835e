-- `words8::chunk::copy_chunk`: a load, and the store of what it gave.
-- Assumes nothing.
use Rattle.runs.proofs.RanLaws.{ran_pair}
use Rattle.words8.proofs.chunk.copy_chunk.Goals as goal

pub returns : goal.returns
returns c = ran_pair c.load-loaded.ensures c.store-stored.ensures c.join.ensures
