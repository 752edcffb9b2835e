-- `checks8::check_range`: line 1, and then the range's.
-- Assumes nothing.
use mathlib.Core.Path.{◌∙◌}
use native.Mathlib.Omega.{arith}
use borrow.Author.Tests.{lt-ltb, le-ltb}
use Rattle.model.specs.Memory.{most_words}
use Rattle.model.proofs.RefusalLaws.{line_given, line_passed}
use Rattle.words8.specs.Word.{W}
use Rattle.checks8.proofs.check_range.Goals as goal

pub returns-then-k-gt-MOST_WORDS : goal.returns-then-k-gt-MOST_WORDS
returns-then-k-gt-MOST_WORDS c = line_given _ _ (lt-ltb (most_words W) c.args.k (omega (arith, c.if-k-gt-MOST_WORDS.true)))

pub returns : goal.returns
returns c =
    c.check_inside.ensures ∙ line_passed _ _ (le-ltb (most_words W) c.args.k (omega (arith, c.if-k-gt-MOST_WORDS.false)))
