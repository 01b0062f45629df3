-- One more is the same, unless a difference was found.
use Rattle.std.proofs.Common.{arith}
use Rattle.decommitment.proofs.stretch.are_same.Goals as goal

pub loop-g-preserved : goal.loop-g-preserved
loop-g-preserved c = grind (arith, c)

pub returns : goal.returns
returns c = λ is k low high. c.loop-g.invariant is k low (omega (arith, high, c.loop-g-test.false))
