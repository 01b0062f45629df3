-- What the sources give before a period is what they give in the one before it.
use Rattle.std.proofs.Common.{arith}
use Rattle.decommitment.proofs.Runs.{outputs_here}
use Rattle.decommitment.proofs.run.given_before.Goals as goal

pub returns-else-t-eq0 : goal.returns-else-t-eq0
returns-else-t-eq0 c = grind (arith, outputs_here, c)
