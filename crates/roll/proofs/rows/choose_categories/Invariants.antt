-- The categories so far are chosen, and all else is as before.
use Rattle.std.proofs.Common.{ℕ, ◌<◌}
use Rattle.uc_model.specs.Prelude.{commitment_of}
use Rattle.schedule_check.specs.WholeWatts.{category, cell}
use Rattle.roll.specs.Prelude.{SameDispatch}
use Rattle.start_costs.specs.Cheapest.{HasLeastCategory}
use Rattle.roll.proofs.rows.choose_categories.Given as goal

abbrev pub invariant-loop-t : goal.invariant-loop-t
invariant-loop-t l = record {
  same : (k : ℕ) → SameDispatch (cell l.initial.row k) (cell l.row k);
  least : (k : ℕ) → k < l.t → HasLeastCategory l.unit (commitment_of l.pattern) k (category l.row k);
}
