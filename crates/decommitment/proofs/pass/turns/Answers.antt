-- One turn more, up to the last unit's.
use Rattle.std.proofs.Common.{arith}
use Rattle.decommitment.proofs.pass.turns.Goals as goal

pub loop-g-preserved : goal.loop-g-preserved
loop-g-preserved c = grind (arith, c)

pub returns : goal.returns
returns c = grind (arith, c)
