-- The sum over the periods so far, and its size.
use Rattle.std.proofs.Common.{◌≡◌, ◌*◌, ◌≤◌, IfSome, unsigned_abs}
use Rattle.uc_model.specs.Prelude.{sum_below, printed_cell_cost}
use Rattle.schedule_check.specs.WholeWatts.{cell}
use Rattle.schedule_check.specs.inside.Known.{IsKnownOn}
use Rattle.schedule_check.specs.declared.pricing.TheConstants.{MOST_CELL_COST}
use Rattle.schedule_check.proofs.pricing.row_cost_over.Given as goal

abbrev pub invariant-loop-t : goal.invariant-loop-t
invariant-loop-t l = record {
  known : IfSome l.known (IsKnownOn l.denominator l.unit);
  value : l.total ≡ sum_below l.t (λ t. printed_cell_cost l.unit l.denominator (cell l.row t));
  size : unsigned_abs l.total ≤ l.t * MOST_CELL_COST;
}
