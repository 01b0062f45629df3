-- The sum over the periods so far, and its size.
use Rattle.std.proofs.Common.{◌≡◌, ◌*◌, ◌≤◌, unsigned_abs}
use Rattle.uc_model.specs.Prelude.{sum_below}
use Rattle.dual_model.specs.Prelude.{renewable_value}
use Rattle.system_value.specs.Sizes.{MAX_CELL}
use Rattle.system_value.proofs.renewable.unit_value.Given as goal

abbrev pub invariant-loop-t : goal.invariant-loop-t
invariant-loop-t l = record {
  value : l.total ≡ sum_below l.t (renewable_value l.instance l.table l.w);
  size : unsigned_abs l.total ≤ l.t * MAX_CELL;
}
