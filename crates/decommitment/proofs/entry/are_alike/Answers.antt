-- The unit that differs isn't one of the stretch, and the others gave as much before.
use Rattle.std.proofs.Common.{arith}
use Rattle.decommitment.proofs.entry.are_alike.Goals as goal

pub returns : goal.returns
returns c = grind (arith, c)
