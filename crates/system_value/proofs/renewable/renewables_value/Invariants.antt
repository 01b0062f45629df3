-- The sum over the units so far, and its size.
use Rattle.std.proofs.Common.{◌≡◌, ◌*◌, ◌≤◌, unsigned_abs}
use Rattle.uc_model.specs.Prelude.{sum_below}
use Rattle.dual_model.specs.Prelude.{renewable_part}
use Rattle.system_value.specs.Sizes.{MAX_RENEWABLE}
use Rattle.system_value.proofs.renewable.renewables_value.Given as goal

abbrev pub invariant-loop-w : goal.invariant-loop-w
invariant-loop-w l = record {
  value : l.total ≡ sum_below l.w (renewable_part l.instance l.table);
  size : unsigned_abs l.total ≤ l.w * MAX_RENEWABLE;
}
