-- The most-on commitment runs from no other.
use Rattle.std.proofs.Common.{arith}
use Rattle.decommitment.proofs.pass.begun.Goals as goal

pub attempt-requires-clause-allowed : goal.attempt-requires-clause-allowed
attempt-requires-clause-allowed c = grind (arith, c)

pub attempt-requires-clause-origin : goal.attempt-requires-clause-origin
attempt-requires-clause-origin c = grind (arith, c)
