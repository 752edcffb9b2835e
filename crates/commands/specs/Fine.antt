-- What a command may be relied on for: K is at most the words there are, a log has at most `most_room` numbers, `put` and `get` lie inside
-- the memory, and what `put` puts are digits. Shown of every line by `fine-command`.
-- Assumes nothing.
use Rattle.std.specs.Prelude.{◌≡◌, true, List, ℕ, ◌+◌, ◌*◌, ◌≤◌, length}
use Rattle.texts.specs.Digits.{all_digits}
use Rattle.commands.specs.declared.Command.{Command}
use Rattle.commands.specs.declared.Command.TheVariants.{Nothing, Ranges, Fill, Strlen, CopyLog, MoveLog, FillLog, Put, Get, Clear}
use Rattle.commands.specs.Fields.{field_at}
use Rattle.commands.specs.Sizes.{memory_bytes, most_room}

abbrev pub Fine : ℕ → List ℕ → Command → Type 0
Fine most s Nothing = Unit {0}
Fine most s (Ranges call k first second n) = k ≤ most
Fine most s (Fill k dest c n) = k ≤ most
Fine most s (Strlen k start) = k ≤ most
Fine most s (CopyLog k dest src n room) = (k ≤ most) × (room ≤ most_room)
Fine most s (MoveLog k dest src n room) = (k ≤ most) × (room ≤ most_room)
Fine most s (FillLog k dest c n room) = (k ≤ most) × (room ≤ most_room)
Fine most s (Put address count) =
    (address + count ≤ memory_bytes) × (length (field_at s 2) ≡ 2 * count) × (all_digits (field_at s 2) ≡ true)
Fine most s (Get address count) = address + count ≤ memory_bytes
Fine most s Clear = Unit {0}
