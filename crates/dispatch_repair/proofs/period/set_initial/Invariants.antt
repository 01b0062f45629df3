-- The units so far give what they gave initially.
use Rattle.std.proofs.Common.{◌≡◌, ℕ, ◌<◌}
use Rattle.uc_model.specs.Prelude.{initial_p, thermal_unit}
use Rattle.dispatch_repair.specs.Prelude.{thermal_amount}
use Rattle.dispatch_repair.proofs.period.set_initial.Given as goal

abbrev pub invariant-loop-g : goal.invariant-loop-g
invariant-loop-g l = (g : ℕ) → g < l.g → thermal_amount l.instance l.amounts g ≡ initial_p (thermal_unit l.instance g)
