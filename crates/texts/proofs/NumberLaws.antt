-- Laws of numbers from text, as the loop over the digits uses them: one digit more, and none.
-- Assumes nothing.
use Rattle.std.proofs.Common.{◌≡◌, ℕ, ◌+◌, ◌*◌, ◌<◌, ◌≤◌, cond, ltb, leb, List, length, get_or, drop, Some, None}
use Rattle.std.proofs.lemmas.Bool.Decides.{nat_tests}
use Rattle.std.proofs.lemmas.List.{at_drop_more, at_drop_all}
use Rattle.texts.specs.Digits.{digit_of}
use Rattle.texts.specs.Numbers.{read_on}

module _ (base most value : ℕ) (s : List ℕ) (i : ℕ) where
  pub next_digit : i < length s
      → read_on base most value (drop i s)
      ≡ cond (ltb (digit_of (get_or s i 0)) base)
      (cond (leb (value * base + digit_of (get_or s i 0)) most) (read_on base most (value * base + digit_of (get_or s i 0)) (drop (i + 1) s)) None)
      None
  unfolding read_on
  next_digit below = at_drop_more (read_on base most value) s i 0 below

  pub no_digit : length s ≤ i → read_on base most value (drop i s) ≡ Some value
  unfolding read_on
  no_digit past = at_drop_all (read_on base most value) s i past

-- What the check of `digits` needs.
pub ruleset digit_rules = (nat_tests, next_digit, no_digit)
