-- The first value and what the steps rise by.
use Rattle.std.proofs.Common.{arith}
use Rattle.std.proofs.lemmas.Int.{ints}
use Rattle.step_functions.proofs.function.ConvexFunction.height.Goals as goal

pub returns-clause-value : goal.returns-clause-value
returns-clause-value c = grind (arith, ints, c)

pub returns-clause-small : goal.returns-clause-small
returns-clause-small c = grind (arith, ints, c)
