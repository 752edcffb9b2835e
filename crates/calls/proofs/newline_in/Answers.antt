-- `calls::newline_in`: std's `position` finds the first newline, and where there is none, as many bytes stand before it as there are
-- (`prefix_len-le-length`). Assumes nothing.
use Rattle.std.proofs.Common.{◌≡◌, rules, tests, ◌==◌, arith}
use Rattle.std.proofs.lemmas.Iterator.{YieldsList-from_slice}
use Rattle.std.proofs.lemmas.Iterator.Search.{position_from_yields_List}
use Rattle.std.proofs.lemmas.List.Sums.{prefix_len-le-length}
use Rattle.std.specs.List.{position}
use Rattle.calls.proofs.newline_in.Goals as goal

pub returns-clause-place : goal.returns-clause-place
returns-clause-place c =
    let found : c.position.result ≡ position (λ x. x == 10) c.args.bytes.now =
    position_from_yields_List (λ x. x == 10) _ _ c.position.result c.position.ensures.ran (YieldsList-from_slice c.args.bytes.now cc)
    (λ x b q k. search (rules, tests)) in
    grind (arith, prefix_len-le-length)
