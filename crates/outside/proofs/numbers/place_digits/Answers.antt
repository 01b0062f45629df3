use Rattle.std.proofs.Common.{◌∙◌, ◌+◌, ap, add-one, arith}
use Rattle.uc_model.specs.Decimal.{whole_text}
use Rattle.uc_model.proofs.DecimalText.{decimal-whole_text}
use Rattle.outside.proofs.numbers.place_digits.Goals as goal

pub returns : goal.returns
returns c =
    let fits = c.ranges.index.fits in
    c.as_bytes.ensures.value ∙ c.format.ensures.text ∙ decimal-whole_text (c.args.index + 1) (omega arith)
    ∙ ap whole_text (add-one c.args.index)
