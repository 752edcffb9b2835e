-- `lines::memory::next_word` makes a word of the next bytes of a text, the highest first.
-- Invariant: the word is that of the bytes from `left` on. Assumes nothing.
use mathlib.Core.Path.{◌≡◌}
use mathlib.Core.Bool.{true}
use mathlib.Core.List.{List}
use Prim.Native.Nat.{ℕ, ◌+◌, ◌*◌, ◌-◌, ◌/◌, ◌<◌, ◌≤◌}
use lib.ListN.{length, get_or}
use Rattle.words8.specs.Word.{W}
use Rattle.texts.specs.Digits.{all_digits}
use Rattle.texts.proofs.DigitLaws.{digit_at}
use Rattle.lines.specs.Bytes.{hex_number, hex_at}
use Rattle.lines.proofs.BytesLaws.{hex_byte_lem, word_none, word_fits, word_more, word_room, word_all}
use native.Mathlib.Omega.{arith}
use Rattle.lines.proofs.memory.next_word.Goals as goal

-- The next byte, by its digits.
next : (hex : List ℕ) (i left v : ℕ) → i + W ≤ length hex / 2 → all_digits hex ≡ true → left ≤ W → 0 < left
    → v ≡ hex_number (get_or hex (2 * (i + (left - 1))) 0) (get_or hex (2 * (i + (left - 1)) + 1) 0) → v ≡ hex_at hex (i + (left - 1))
next hex i left v inside all few some is =
    let at = 2 * (i + (left - 1)) in
    hex_byte_lem hex _ _ (digit_at hex at all (omega arith)) (digit_at hex (at + 1) all (omega arith)) is

pub loop-left-init : goal.loop-left-init
loop-left-init c = word_none _ _

pub overflow_mul-word : goal.overflow_mul-word
overflow_mul-word c = record { fits = word_room c.loop-left.invariant c.loop-left-test.true }

pub two_digits-requires : goal.two_digits-requires
two_digits-requires c =
    let at = 2 * (c.args.i + (c.loop-left.left - 1)) in (
      digit_at c.args.hex.now at c.requires.1
          (omega (arith, c.requires.0)),
      digit_at c.args.hex.now (at + 1) c.requires.1
          (omega (arith, c.requires.0)),
    )

pub overflow_add-word : goal.overflow_add-word
overflow_add-word c =
    record { fits = word_fits c.loop-left.invariant _ c.loop-left-test.true (next _ _ _ _ c.requires.0 c.requires.1 c.loop-left.invariant.few c.loop-left-test.true c.two_digits.ensures) }

pub loop-left-preserved : goal.loop-left-preserved
loop-left-preserved c = word_more c.loop-left.invariant _ c.loop-left-test.true (next _ _ _ _ c.requires.0 c.requires.1 c.loop-left.invariant.few c.loop-left-test.true c.two_digits.ensures)

pub returns : goal.returns
returns c = word_all c.loop-left.invariant c.loop-left-test.false
