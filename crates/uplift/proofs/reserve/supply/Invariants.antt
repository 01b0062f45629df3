-- The sum over the units so far, and its size.
use Rattle.std.proofs.Common.{◌≡◌, ◌*◌, ◌≤◌, unsigned_abs}
use Rattle.uc_model.specs.Prelude.{cell_at, sum_below}
use Rattle.uplift.specs.Sizes.{MAX_WATTS}
use Rattle.uplift.proofs.reserve.supply.Given as goal

abbrev pub invariant-loop-g : goal.invariant-loop-g
invariant-loop-g l = record {
  value : l.total ≡ sum_below l.g (λ g. (cell_at l.printed g l.t).r);
  size : unsigned_abs l.total ≤ l.g * MAX_WATTS;
}
