use Rattle.std.proofs.Common.{arith}
use Rattle.decimal_json.proofs.Numerals.{adds_more}
use Rattle.decimal_json.proofs.number.add_digits.Goals as goal

pub loop-at-preserved : goal.loop-at-preserved
loop-at-preserved c = grind (arith, adds_more, c)
