-- It is no greater in size than the two sizes together.
use Rattle.std.proofs.Common.{arith}
use Rattle.uc_model.proofs.arithmetic.sum.Goals as goal

pub overflow_add-result : goal.overflow_add-result
overflow_add-result c = grind (arith, c)
