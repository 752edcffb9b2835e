-- `show::Out::write_worded` writes the word, and the number's digits behind it.
-- Assumes nothing.
use Rattle.show.proofs.Writing.{wrote_then}
use Rattle.show.proofs.Out.write_worded.Goals as goal

pub returns : goal.returns
returns c = wrote_then c.write_text.ensures c.write_decimal.ensures
