-- `show::Out::write_number` writes the number's distance from 0, behind the word with its sign.
-- Assumes nothing.
use Rattle.std.proofs.Common.{◌≡◌, true, false, refl, ◌++◌, arith, ℤ, pos, negsuc}
use mir.Facts.{to_z-of_z}
use lib.IntN.{nat_abs}
use lib.Signed.{lt_z}
use borrow.Author.Tests.{ltb-true}
use Rattle.texts.specs.Codes.{codes}
use Rattle.model.specs.Answers.{a_number}
use Rattle.show.specs.Numbers.{decimal}
use Rattle.show.specs.AnswerText.{said_text}
use Rattle.show.proofs.Out.write_number.Goals as goal

below : (z : ℤ) → lt_z z (pos 0) ≡ true → codes "number -" ++ decimal (nat_abs z) ≡ said_text (a_number z)
unfolding said_text
below (pos n) is = absurd (omega (arith, ltb-true n 0 is))
below (negsuc n) is = refl

above : (z : ℤ) → lt_z z (pos 0) ≡ false → codes "number " ++ decimal (nat_abs z) ≡ said_text (a_number z)
unfolding said_text
above (pos n) is = refl
above (negsuc n) is = cc

pub returns-then-number-lt0 : goal.returns-then-number-lt0
returns-then-number-lt0 c =
    let is = rw (to_z-of_z c.ranges.number) at c.unsigned_abs-distance.ensures.value in
    let negative = rw (to_z-of_z c.ranges.number) at c.if-number-lt0.true in
    rw (← below _ negative, ← is) c.write_worded.ensures

pub returns-else-number-lt0 : goal.returns-else-number-lt0
returns-else-number-lt0 c =
    let is = rw (to_z-of_z c.ranges.number) at c.unsigned_abs-distance.ensures.value in
    let positive = rw (to_z-of_z c.ranges.number) at c.if-number-lt0.false in
    rw (← above _ positive, ← is) c.write_worded-else-number-lt0.ensures
