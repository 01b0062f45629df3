-- The rule holds for each of the units so far.
use Rattle.std.proofs.Common.{ℕ, ◌<◌, IsTrue}
use Rattle.uc_model.specs.Prelude.{thermal_unit}
use Rattle.schedule_check.specs.WholeWatts.{over, row_of, unit_holds_by, unit_periods}
use Rattle.schedule_check.proofs.unit_rules.first_place.Given as goal

abbrev pub invariant-loop-unit : goal.invariant-loop-unit
invariant-loop-unit l = (g t : ℕ) → g < l.unit → t < unit_periods l.rule l.instance.periods
    → IsTrue (unit_holds_by (over l.printed.denominator) l.rule l.instance.periods (thermal_unit l.instance g) (row_of l.printed g) t)
