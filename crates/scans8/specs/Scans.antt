-- What a scan for a zero byte answers.
-- Assumes nothing.
use Rattle.std.specs.Prelude.{cond, ℕ, ltb, Option, Some, None}

-- The first zero among m bytes stands at place z: that many bytes come before it. There is none where z is m.
abbrev pub scan_of : ℕ → ℕ → Option ℕ
scan_of z m = cond (ltb z m) (Some z) None
