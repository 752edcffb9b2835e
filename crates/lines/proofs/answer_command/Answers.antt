-- `lines::answer_command` does what the command says, and writes the answer that the text form has. Of a call with a log there is room for
-- the numbers that it wrote (`log_room`), and the line is that of the text form (`log_told`). Assumes nothing.
use Rattle.std.proofs.Common.{rules, true}
use Rattle.lists.specs.Sizes.{eight_byte}
use Rattle.lists.proofs.Placed.{along_aligned, fill_aligned}
use Rattle.lines.specs.Lines.{answer_of, LeftBy, copy_log_text, copy_log_words, move_log_text, move_log_words, fill_log_text, fill_log_words}
use Rattle.lines.proofs.Logged.{log_room, log_told}
use Rattle.lines.proofs.answer_command.Goals as goal

pub write_logged-requires : goal.write_logged-requires
write_logged-requires c = let room = log_room c.memcpy_logged-answer.ensures in search rules

pub write_logged-requires-in-MoveLog : goal.write_logged-requires-in-MoveLog
write_logged-requires-in-MoveLog c = let room = log_room c.memmove_logged-answer.ensures in search rules

pub write_logged-requires-in-FillLog : goal.write_logged-requires-in-FillLog
write_logged-requires-in-FillLog c = let room = log_room c.memset_logged-answer.ensures in search rules

pub returns-in-CopyLog : goal.returns-in-CopyLog
unfolding answer_of LeftBy copy_log_text copy_log_words
returns-in-CopyLog c =
    let told = log_told c.memcpy_logged-answer.ensures (along_aligned eight_byte true _ _ _) c.write_logged.ensures in
    search rules

pub returns-in-MoveLog : goal.returns-in-MoveLog
unfolding answer_of LeftBy move_log_text move_log_words
returns-in-MoveLog c =
    let told = log_told c.memmove_logged-answer.ensures (along_aligned eight_byte _ _ _ _) c.write_logged-in-MoveLog.ensures in
    search rules

pub returns-in-FillLog : goal.returns-in-FillLog
unfolding answer_of LeftBy fill_log_text fill_log_words
returns-in-FillLog c =
    let told = log_told c.memset_logged-answer.ensures (fill_aligned eight_byte _ _) c.write_logged-in-FillLog.ensures in
    search rules
