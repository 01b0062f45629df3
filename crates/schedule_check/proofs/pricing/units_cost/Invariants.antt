-- The sum over the units so far, and its size.
use Rattle.std.proofs.Common.{◌≡◌, ◌*◌, ◌≤◌, unsigned_abs}
use Rattle.uc_model.specs.Prelude.{sum_below, thermal_unit, cell_at, printed_cell_cost}
use Rattle.schedule_check.specs.declared.pricing.TheConstants.{MOST_PERIODS, MOST_CELL_COST}
use Rattle.schedule_check.proofs.pricing.units_cost.Given as goal

abbrev pub invariant-loop-g : goal.invariant-loop-g
invariant-loop-g l = record {
  value : l.total ≡ sum_below l.g (λ g. sum_below l.instance.periods (λ t. printed_cell_cost (thermal_unit l.instance g) l.printed.denominator (cell_at l.printed g t)));
  size : unsigned_abs l.total ≤ l.g * (MOST_PERIODS * MOST_CELL_COST);
}
