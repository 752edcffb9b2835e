-- `show::Out::write_logged` writes what the answer says, ` log`, as many numbers of the log as the call has counted, and the newline. There is
-- room for each (`reply_few`, `list_few`).
-- Assumes nothing.
use Rattle.std.proofs.Common.{arith, length-take-le}
use Rattle.show.specs.LoggedText.{logged_text}
use Rattle.show.proofs.Writing.{wrote_then, wrote_size, wrote_within}
use Rattle.show.proofs.TextLengths.{reply_few, list_few}
use Rattle.show.proofs.Out.write_logged.Goals as goal

pub write_log-requires : goal.write_log-requires
write_log-requires c =
    let said = wrote_within (reply_few _) c.write_reply.ensures in
    let word = wrote_size c.write_text.ensures in
    omega (arith, length-take-le c.sum-count.result c.args.log.now (omega arith))

pub write_text-requires-2 : goal.write_text-requires-2
write_text-requires-2 c =
    let said = wrote_within (reply_few _) c.write_reply.ensures in
    let word = wrote_size c.write_text.ensures in
    let listed = wrote_within (list_few c.args.log.now (λ j. (c.type_inv.log j).fits) c.sum-count.result) c.write_log.ensures in
    omega arith

pub returns : goal.returns
unfolding logged_text
returns c =
    rw (← c.sum-count.ensures)
    (wrote_then c.write_reply.ensures (wrote_then c.write_text.ensures (wrote_then c.write_log.ensures c.write_text-2.ensures)))
