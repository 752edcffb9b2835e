-- `mem8::bcmp` is `mem8::memcmp`, and so are their meanings.
-- Assumes nothing.
use Rattle.model.specs.Answers.{compare_answer, bcmp_answer}
use Rattle.mem8.proofs.bcmp.Goals as goal

pub returns : goal.returns
unfolding compare_answer bcmp_answer
returns c = c.memcmp.ensures
