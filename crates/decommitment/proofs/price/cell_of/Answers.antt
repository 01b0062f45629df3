-- A cell is the unit's by the commitment, with the amount at its place.
use Rattle.std.proofs.Common.{arith}
use Rattle.decommitment.proofs.RunCosts.{amount_read}
use Rattle.decommitment.proofs.price.cell_of.Goals as goal

pub returns : goal.returns
returns c = grind (arith, amount_read, c)
