-- `words8::bytes::broadcast`. Invariant (`So`): bits is 8 * n, where n divides the word, and the lowest n bytes are c each. The measure
-- is what is left of the word's bits. Assumes nothing.
use mathlib.Core.Path.{◌≡◌}
use Prim.Native.Nat.{ℕ, ◌*◌, ◌-◌, ◌%◌}
use Rattle.model.specs.Memory.{read_le}
use Rattle.words8.specs.Word.{W}
use Rattle.words8.proofs.bytes.broadcast.Given as goal

pub record So (c broadcast bits : ℕ) : Type 0 where
  pub n : ℕ
  pub size : bits ≡ 8 * n
  pub divides : W % n ≡ 0
  pub word : broadcast ≡ read_le (λ x. c) 0 n

abbrev pub invariant-loop-bits : goal.invariant-loop-bits
invariant-loop-bits l = So l.c l.broadcast l.bits

abbrev pub decreases-loop-bits : goal.decreases-loop-bits
decreases-loop-bits l = 8 * W - l.bits
