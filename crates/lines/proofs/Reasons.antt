-- How long a reason can be.
-- Assumes nothing.
use Prim.Native.Nat.{◌≤◌}
use native.Mathlib.Omega.{arith}
use lib.ListN.{length}
use Rattle.commands.specs.declared.Why.{Why}
use Rattle.commands.specs.declared.Why.TheVariants.{TooLong, UnknownWord, WrongFields, NoNumber, TooManyWords, TooMuchRoom, OddDigits, OutsideMemory}
use Rattle.texts.specs.Texts.{front, text_at}
use Rattle.lines.specs.Lines.{why_text}
use Rattle.lines.specs.Sizes.{most_why}

pub why_few : (why : Why) → length (why_text why) ≤ most_why
unfolding why_text text_at front
why_few TooLong = omega arith
why_few UnknownWord = omega arith
why_few WrongFields = omega arith
why_few NoNumber = omega arith
why_few TooManyWords = omega arith
why_few TooMuchRoom = omega arith
why_few OddDigits = omega arith
why_few OutsideMemory = omega arith
