-- The sum over the periods so far, and its size.
use Rattle.std.proofs.Common.{◌≡◌, ◌*◌, ◌≤◌, unsigned_abs}
use Rattle.uc_model.specs.Prelude.{sum_below, printed_shortage_cost}
use Rattle.schedule_check.specs.WholeWatts.{lacking_alone}
use Rattle.schedule_check.specs.declared.pricing.TheConstants.{MOST_MISSING_COST}
use Rattle.schedule_check.proofs.pricing.shortages_cost.Given as goal

abbrev pub invariant-loop-t : goal.invariant-loop-t
invariant-loop-t l = record {
  value : l.total ≡ sum_below l.t (printed_shortage_cost l.instance (lacking_alone l.denominator l.shed l.short));
  size : unsigned_abs l.total ≤ l.t * (2 * MOST_MISSING_COST);
}
