use Rattle.std.proofs.Common.{arith}
use Rattle.std.proofs.lemmas.Int.{ints, to_z-of_z}
use Rattle.uc_model.proofs.DecimalText.{signed_decimal-signed_text}
use Rattle.uc_model.proofs.texts.signed_digits.Goals as goal

pub returns : goal.returns
returns c = grind (arith, ints, to_z-of_z, signed_decimal-signed_text, c)
