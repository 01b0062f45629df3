-- The sum over the cells so far, and its size.
use Rattle.std.proofs.Common.{◌≡◌, ◌*◌, ◌≤◌, unsigned_abs}
use Rattle.uc_model.specs.Prelude.{sum_below}
use Rattle.schedule_check.specs.WholeWatts.{cell}
use Rattle.uplift.specs.Sizes.{MAX_CHARGE}
use Rattle.uplift.specs.Uplift.{charge}
use Rattle.uplift.proofs.thermal.charges.Given as goal

abbrev pub invariant-loop-t : goal.invariant-loop-t
invariant-loop-t l = record {
  value : l.total ≡ sum_below l.t (λ t. charge l.unit l.table l.g t (cell l.row t));
  size : unsigned_abs l.total ≤ l.t * MAX_CHARGE;
}
