-- `lines::answer_line` answers the command that the line says, which is fine (`fine-command`), or why it says none. Assumes nothing.
use Rattle.std.proofs.Common.{refl}
use Rattle.commands.proofs.Fine.{fine-command}
use Rattle.lines.specs.Lines.{answer_of, LeftBy}
use Rattle.lines.specs.Sizes.{memory_words}
use Rattle.lines.proofs.answer_line.Goals as goal

pub answer_command-requires : goal.answer_command-requires
answer_command-requires c =
    let fine = rw (← c.in-Ok.ensures) at (fine-command memory_words c.args.line.now) in
    (c.requires.0, c.requires.1, fine, c.requires.2)

pub returns-in-Ok : goal.returns-in-Ok
returns-in-Ok c = rw (← c.in-Ok.ensures) (c.answer_command.ensures c.args.number)

pub returns-in-Err : goal.returns-in-Err
unfolding answer_of LeftBy
returns-in-Err c = rw (← c.in-Err.ensures) (record { memory = refl; text = c.answer_bad.ensures })
