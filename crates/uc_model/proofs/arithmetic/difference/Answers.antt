-- It is no greater in size than the two sizes together.
use Rattle.std.proofs.Common.{arith}
use Rattle.uc_model.proofs.arithmetic.difference.Goals as goal

pub overflow_sub-result : goal.overflow_sub-result
overflow_sub-result c = grind (arith, c)
