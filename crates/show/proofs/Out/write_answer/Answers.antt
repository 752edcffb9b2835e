-- `show::Out::write_answer` writes what the answer says, and the newline behind it.
-- Assumes nothing.
use Rattle.show.specs.AnswerText.{answer_text}
use Rattle.show.proofs.Writing.{wrote_then}
use Rattle.show.proofs.Out.write_answer.Goals as goal

pub returns : goal.returns
unfolding answer_text
returns c = wrote_then c.write_reply.ensures c.write_text.ensures
