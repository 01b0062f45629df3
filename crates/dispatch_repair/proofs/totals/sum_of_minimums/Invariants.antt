-- The sum over the units so far, and its size.
use Rattle.std.proofs.Common.{◌≡◌, ◌*◌, ◌≤◌, ◌*ℤ◌, unsigned_abs}
use Rattle.uc_model.specs.Prelude.{thermal_unit, bit, sum_below}
use Rattle.uc_model.specs.declared.limits.TheConstants.{MAX_POWER}
use Rattle.dispatch_repair.specs.Prelude.{commitment_at}
use Rattle.dispatch_repair.proofs.totals.sum_of_minimums.Given as goal

abbrev pub invariant-loop-g : goal.invariant-loop-g
invariant-loop-g l = record {
  value : l.total ≡ sum_below l.g (λ g. (thermal_unit l.instance g).pmin *ℤ bit (commitment_at l.patterns g l.t));
  size : unsigned_abs l.total ≤ l.g * (3 * MAX_POWER);
}
