use Rattle.uc_model.proofs.Quotients.{quotient_up-is}
use Rattle.uc_model.proofs.laws.quotients_up_are_ceilings.Goals as goal

pub returns : goal.returns
returns c = quotient_up-is
