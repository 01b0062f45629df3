-- The range where the unit is on, less the reduction.
use Rattle.std.proofs.Common.{arith}
use Rattle.uc_model.proofs.Sizes.{abs_narrow}
use Rattle.uc_model.proofs.Caps.{is_in_bits, reduced_is, reduced_power}
use Rattle.uc_model.proofs.instance.Thermal.start_cap.Goals as goal

pub returns-clause-value : goal.returns-clause-value
returns-clause-value c lawful = grind (arith, is_in_bits, reduced_power, reduced_is, c, lawful)

pub returns-clause-size : goal.returns-clause-size
returns-clause-size c lawful = grind (arith, reduced_power, abs_narrow, c, lawful)
