-- `show::Out::write_decimal` writes the digits that `io::decimal` gives, which are the number's text (`digits_decimal`).
-- Assumes nothing.
use Rattle.std.proofs.Common.{◌∙◌, ap, length, arith}
use Rattle.show.proofs.Writing.{wrote_as}
use Rattle.show.proofs.NumberLaws.{digits_decimal}
use Rattle.show.proofs.Out.write_decimal.Goals as goal

pub write_text-requires : goal.write_text-requires
write_text-requires c =
    let known = c.decimal-k.ensures in
    omega (arith, ap length (known.digits ∙ digits_decimal _ _ known.len c.ranges.n.fits))

pub returns : goal.returns
returns c =
    let known = c.decimal-k.ensures in
    wrote_as (known.digits ∙ digits_decimal _ _ known.len c.ranges.n.fits) c.write_text.ensures
