-- The sum over the periods so far, and its size.
use Rattle.std.proofs.Common.{◌≡◌, ◌*◌, ◌≤◌, unsigned_abs}
use Rattle.uc_model.specs.Prelude.{sum_below}
use Rattle.dual_model.specs.Prelude.{needs_value}
use Rattle.system_value.specs.Sizes.{MAX_HOUR}
use Rattle.system_value.proofs.demand.system_value.Given as goal

abbrev pub invariant-loop-t : goal.invariant-loop-t
invariant-loop-t l = record {
  value : l.total ≡ sum_below l.t (needs_value l.instance l.table);
  size : unsigned_abs l.total ≤ l.t * MAX_HOUR;
}
