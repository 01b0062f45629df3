-- The sum over the units so far, each of which has a value, and its size.
use Rattle.std.proofs.Common.{◌+◌, ◌*◌, ◌≤◌, unsigned_abs}
use Rattle.dual_model.specs.Prelude.{MAX_COST_TO_GO}
use Rattle.leaf_values.specs.Entries.{MAX_CONSTANT, MAX_REST}
use Rattle.leaf_values.specs.inside.Totals.{IsTotal}
use Rattle.leaf_values.proofs.node_value.total.Given as goal

abbrev pub invariant-loop-g : goal.invariant-loop-g
invariant-loop-g l = record {
  sum : IsTotal l.entries l.g l.total;
  size : unsigned_abs l.total ≤ MAX_REST + l.g * (MAX_COST_TO_GO + MAX_CONSTANT);
}
