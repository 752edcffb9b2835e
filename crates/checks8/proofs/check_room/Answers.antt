-- `checks8::check_room`: line 6 holds where the room is less than the list's length.
-- Assumes nothing.
use mathlib.Core.Path.{◌∙◌}
use borrow.Author.Tests.{lt-ltb, le-ltb}
use Rattle.model.proofs.RefusalLaws.{line_given, line_passed, lines_passed}
use Rattle.checks8.proofs.check_room.Goals as goal

pub returns-then-room-accesses : goal.returns-then-room-accesses
returns-then-room-accesses c = line_given _ _ (lt-ltb _ _ c.if-room-accesses.true)

pub returns : goal.returns
returns c = lines_passed ∙ line_passed _ _ (le-ltb _ _ c.if-room-accesses.false)
