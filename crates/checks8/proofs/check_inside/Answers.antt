-- `checks8::check_inside` is one line of the table: an address past the end, or more bytes than are left, is address + n > M.
-- Assumes nothing.
use mathlib.Core.Path.{◌∙◌}
use Prim.Native.Nat.{◌+◌}
use native.Mathlib.Omega.{arith}
use borrow.Author.Tests.{lt-ltb, le-ltb}
use Rattle.model.proofs.RefusalLaws.{line_given, line_passed, lines_passed}
use Rattle.checks8.proofs.check_inside.Goals as goal

pub returns : goal.returns
returns c =
    let start = c.args in
    lines_passed ∙ line_passed _ _ (le-ltb start.bytes (start.address + start.n) (omega (arith, c.if-address-bytes.false, c.if-n-bytes.false)))

pub returns-then-address-bytes : goal.returns-then-address-bytes
returns-then-address-bytes c =
    let start = c.args in
    line_given _ _ (lt-ltb start.bytes (start.address + start.n) (omega (arith, c.if-address-bytes.true)))

pub returns-then-n-bytes : goal.returns-then-n-bytes
returns-then-n-bytes c =
    let start = c.args in
    line_given _ _ (lt-ltb start.bytes (start.address + start.n) (omega (arith, c.if-n-bytes.true)))
