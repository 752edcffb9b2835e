-- `texts::numbers::digits` reads digits from left to right.
-- Invariant: what is left, with the value so far, makes the number of the whole. Assumes nothing.
use Rattle.std.proofs.Common.{◌≡◌, ◌≤◌, drop}
use Rattle.texts.specs.Numbers.{read_on, digits_in}
use Rattle.texts.proofs.numbers.digits.Given as goal

abbrev pub invariant-loop-byte : goal.invariant-loop-byte
invariant-loop-byte l = record {
  same : digits_in l.base l.most l.s ≡ read_on l.base l.most l.value (drop l.byte-index l.s);
  few : l.value ≤ l.most;
}
