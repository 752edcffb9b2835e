-- What string length says of a scan.
-- Assumes nothing.
use Rattle.std.specs.Prelude.{ℕ, Option, Some, None}
use Rattle.model.specs.Answers.{Said, a_length, a_refusal}

-- The length, or refusal 5.
abbrev pub scan_said : Option ℕ → Said
scan_said (Some n) = a_length n
scan_said None = a_refusal 5
