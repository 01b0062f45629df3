-- The place lies so many steps from the first one.
use Rattle.std.proofs.Common.{arith}
use Rattle.std.proofs.lemmas.Int.{ints, to_z-of_z}
use Rattle.step_functions.proofs.Values.{value_at-place}
use Rattle.step_functions.proofs.function.ConvexFunction.at.Goals as goal

pub returns : goal.returns
returns c = grind (arith, ints, value_at-place, to_z-of_z, c)
