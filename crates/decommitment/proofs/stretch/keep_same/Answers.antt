-- A stretch more was gone over.
use Rattle.std.proofs.Common.{arith}
use Rattle.decommitment.proofs.stretch.keep_same.Goals as goal

pub loop-done-init : goal.loop-done-init
loop-done-init c = grind (arith, c)

pub loop-done-preserved : goal.loop-done-preserved
loop-done-preserved c = grind (arith, c)

pub returns : goal.returns
returns c = grind (arith, c)
