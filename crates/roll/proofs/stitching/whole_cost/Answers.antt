-- The instance cut to all of its periods is the instance, so what is kept of them obeys it.
use Rattle.std.proofs.Common.{arith}
use Rattle.uc_model.proofs.Common.{printed_cost-fits, watts-factor, narrow}
use Rattle.roll.proofs.Parts.{first_of_all}
use Rattle.roll.proofs.stitching.whole_cost.Goals as goal

pub cost-requires-clause-obeys : goal.cost-requires-clause-obeys
cost-requires-clause-obeys c = grind (arith, first_of_all, c)

pub returns : goal.returns
returns c = grind (arith, first_of_all, watts-factor, printed_cost-fits, narrow, c)
