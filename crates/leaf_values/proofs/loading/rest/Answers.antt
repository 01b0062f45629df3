-- Two parts of known sizes.
use Rattle.std.proofs.Common.{arith}
use Rattle.leaf_values.proofs.loading.rest.Goals as goal

pub sum-requires : goal.sum-requires
sum-requires c = grind (arith, c)
