-- The product is the difference of two small values.
use Rattle.std.proofs.Common.{◌≡◌, arith, ◌*ℤ◌, to_z, of_z}
use Rattle.std.specs.Int.{w128}
use Rattle.std.proofs.lemmas.Int.{ints}
use Rattle.step_functions.proofs.function.along.Goals as goal
use Rattle.step_functions.proofs.function.along.Goals.{After-from}

product : (c : After-from) → to_z w128 (of_z w128 c.args.slope) *ℤ to_z w128 (of_z w128 c.from.result) ≡ c.args.slope *ℤ c.args.watts
product c = grind (arith, ints)

pub overflow_mul-result : goal.overflow_mul-result
overflow_mul-result c = grind (arith, ints, c)

pub overflow_add-result : goal.overflow_add-result
overflow_add-result c = let is = product (goal.at.overflow_add-result c).After-from in omega (arith, ints)

pub returns : goal.returns
returns c = let is = product (goal.at.returns c).After-from in omega (arith, ints)
