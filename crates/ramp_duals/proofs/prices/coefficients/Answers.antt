-- The prices of the row are within the limits.
use Rattle.std.proofs.Common.{arith}
use Rattle.uc_model.proofs.Common.{wide-size}
use Rattle.ramp_duals.proofs.PriceSizes.{row-size}
use Rattle.ramp_duals.proofs.prices.coefficients.Goals as goal

pub returns-clause-size : goal.returns-clause-size
returns-clause-size c limits = grind (arith, row-size, wide-size, c, limits)
