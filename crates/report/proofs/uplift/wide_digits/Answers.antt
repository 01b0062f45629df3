use Rattle.std.proofs.Common.{◌∙◌, ◌<◌, ◌^◌, unsigned_abs, arith}
use Rattle.std.proofs.lemmas.Int.{ints, to_z-of_z}
use Rattle.uc_model.proofs.DecimalText.{signed_decimal-signed_text}
use Rattle.report.proofs.uplift.wide_digits.Goals as goal

pub returns : goal.returns
returns c =
    let fits = c.ranges.number in
    let small : unsigned_abs c.args.number < 10 ^ 64 = omega (arith, ints) in
    c.as_bytes.ensures.value ∙ simp to_z-of_z at c.format.ensures.text ∙ signed_decimal-signed_text c.args.number small
