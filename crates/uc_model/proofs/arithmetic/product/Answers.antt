-- It is as large as the product of the sizes.
use Rattle.std.proofs.Common.{arith}
use Rattle.uc_model.proofs.arithmetic.product.Goals as goal

pub overflow_mul-result : goal.overflow_mul-result
overflow_mul-result c = grind (arith, c)
