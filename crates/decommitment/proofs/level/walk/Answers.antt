-- Up and then down.
use Rattle.std.proofs.Common.{arith}
use Rattle.decommitment.proofs.level.walk.Goals as goal

pub returns : goal.returns
returns c = grind (arith, c)
