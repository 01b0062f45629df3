-- Both numbers are small.
use Rattle.std.proofs.Common.{arith}
use Rattle.std.proofs.lemmas.Int.{ints}
use Rattle.opening_tables.proofs.rays.first_reach.Goals as goal

pub overflow_add-result : goal.overflow_add-result
overflow_add-result c = let size = c.initial_output.ensures.size c.requires in let limit = c.requires.ramp_up.power in omega (arith, ints, size, limit)
