-- The scale of the opening's tables is above 0.
use Rattle.std.proofs.Common.{arith, pos, ◌<ℤ◌}
use Rattle.uc_model.proofs.Common.{linear}
use Rattle.dual_model.specs.Prelude.{ZERO_SCALE}

pub million : pos 0 <ℤ ZERO_SCALE
million = omega (arith, linear)
