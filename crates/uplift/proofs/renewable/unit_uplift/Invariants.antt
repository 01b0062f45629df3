-- The sum over the periods so far, and its size.
use Rattle.std.proofs.Common.{◌≡◌, ◌*◌, ◌≤◌, unsigned_abs}
use Rattle.uc_model.specs.Prelude.{sum_below}
use Rattle.uplift.specs.Sizes.{MAX_PRICED}
use Rattle.uplift.specs.inside.Lists.{renewable_uplift_at}
use Rattle.uplift.proofs.renewable.unit_uplift.Given as goal

abbrev pub invariant-loop-t : goal.invariant-loop-t
invariant-loop-t l = record {
  value : l.total ≡ sum_below l.t (renewable_uplift_at l.instance l.printed l.table l.w);
  size : unsigned_abs l.total ≤ l.t * MAX_PRICED;
}
