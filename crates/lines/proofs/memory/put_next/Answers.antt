-- `lines::memory::put_next` stores a word, or a byte, of the text. Assumes nothing.
use mathlib.Core.Path.{refl, sym, ◌∙◌}
use Prim.Native.Nat.{◌+◌, ◌*◌}
use Rattle.words8.specs.Word.{W}
use Rattle.model.proofs.ByteLaws.{read_le_one}
use Rattle.texts.proofs.DigitLaws.{digit_at}
use Rattle.lines.specs.Bytes.{hex_at}
use Rattle.lines.proofs.BytesLaws.{hex_byte_lem, put_laid}
use native.Mathlib.Omega.{arith}
use Rattle.lines.proofs.memory.put_next.Goals as goal

pub returns-then-i-hex : goal.returns-then-i-hex
returns-then-i-hex c =
    put_laid c.args.hex.now c.args.address c.args.i W _ _ c.set.ensures refl (omega arith)
    (omega (arith, c.if-i-hex.true))
    c.next_word.ensures

pub two_digits-requires : goal.two_digits-requires
two_digits-requires c =
    let hex = c.args.hex.now in
    let all = c.requires.1 in (
      digit_at hex (2 * c.args.i) all (omega (arith, c.requires.2)),
      digit_at hex (2 * c.args.i + 1) all (omega (arith, c.requires.2)),
    )

pub returns : goal.returns
returns c =
    let hex = c.args.hex.now in
    let i = c.args.i in
    let high = digit_at hex (2 * i) c.requires.1 (omega (arith, c.requires.2)) in
    let low = digit_at hex (2 * i + 1) c.requires.1 (omega (arith, c.requires.2)) in
    put_laid hex c.args.address i 1 _ _ c.set-2.ensures refl (omega arith) (omega (arith, c.requires.2))
    (hex_byte_lem hex i _ high low c.two_digits.ensures ∙ sym (read_le_one (hex_at hex) i))
