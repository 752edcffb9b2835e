-- `words8::bytes::broadcast`. Invariant (`So`): bits is 8 * n, where n divides the word, and the lowest n bytes are c each. The measure
-- is what is left of the word's bits. Assumes nothing.
use mathlib.Core.Path.{◌≡◌, ap, ◌∙◌}
use mathlib.Core.Bool.{Bool, not, ◌&&◌, ◌||◌}
use Prim.Native.Nat.{ℕ, zero, suc, ◌+◌, ◌*◌, ◌%◌, ◌^◌, ◌<◌, ◌≤◌}
use native.Mathlib.Nat.{dvd_of_mod-eq-zero, le_of_dvd, mod-one, mod-zero}
use native.Mathlib.Omega.{arith}
use lib.Bits.{bit_or}
use lib.Dec.{T, eqb, leb, eqb→eq, leb→le}
use borrow.Author.Tests.{eq-eqb}
use Rattle.model.specs.Memory.{read_le}
use Rattle.model.proofs.ShiftLaws.{doubling}
use Rattle.model.proofs.Widths.{below, both}
use Rattle.words8.specs.Word.{W}
use Rattle.words8.proofs.bytes.broadcast.Invariants.{So}
use Rattle.words8.proofs.bytes.broadcast.Goals as goal

-- A part of the word that is not the whole of it can be doubled.
doubles : ℕ → Bool
doubles n = not (eqb (W % n) 0) || (leb (n + n) W && eqb (W % (n + n)) 0)

doubled : (n : ℕ) → W % n ≡ 0 → n < W → (n + n ≤ W) × (W % (n + n) ≡ 0)
unfolding doubles
doubled n e l =
    let h : T (leb (n + n) W) × T (eqb (W % (n + n)) 0) = both (leb (n + n) W) (eqb (W % (n + n)) 0) (rw (eq-eqb (W % n) 0 e) at (below doubles W tt n l)) in
    (leb→le (n + n) W h.0, eqb→eq (W % (n + n)) 0 h.1)

some : (n : ℕ) → W % n ≡ 0 → 0 < n
some zero e = absurd (omega (arith, mod-zero W))
some (suc n) e = omega arith

whole : {c broadcast bits : ℕ} → (s : So c broadcast bits) → 8 * W ≤ bits → broadcast ≡ read_le (λ x. c) 0 W
whole {c} s l =
    s.word
    ∙ ap (read_le (λ x. c) 0) (omega (arith, le_of_dvd {m = s.n} {n = W} (omega arith) (dvd_of_mod-eq-zero s.n s.divides)))

twice : {c broadcast bits : ℕ} → c < 256 → So c broadcast bits → bits < 8 * W → So c (bit_or broadcast (broadcast * 2 ^ bits % 2 ^ (8 * W))) (bits * 2)
twice {c} h s l = record {
  n = s.n + s.n;
  size = omega arith;
  divides = (doubled s.n s.divides (omega arith)).1;
  word = rw s.word (doubling W s.n c h (doubled s.n s.divides (omega arith)).0 s.size);
}

pub loop-bits-init : goal.loop-bits-init
unfolding read_le
loop-bits-init c = record { n = 1; size = omega arith; divides = mod-one W; word = omega arith }

pub loop-bits-preserved : goal.loop-bits-preserved
loop-bits-preserved c = twice (omega arith) c.loop-bits.invariant (omega arith)
