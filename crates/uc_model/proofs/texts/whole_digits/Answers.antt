use Rattle.std.proofs.Common.{arith}
use Rattle.uc_model.proofs.DecimalText.{decimal-whole_text}
use Rattle.uc_model.proofs.texts.whole_digits.Goals as goal

pub returns : goal.returns
returns c = grind (arith, decimal-whole_text, c)
