-- Each digit is the one that the closure computed.
use Rattle.std.proofs.Common.{rules}
use Rattle.uc_model.specs.Money.{six_digits}
use Rattle.uc_model.proofs.money.decimals.Goals as goal

pub returns : goal.returns
unfolding six_digits
returns c = search rules
