-- Each example is computed.
use Rattle.std.proofs.Common.{refl}
use Rattle.dual_model.proofs.Computed.{computed_value as value, computed_empty}
use Rattle.dual_model.proofs.NodeValues.{node_value_of, units_value_of}
use Rattle.dual_model.proofs.UnitValues.{unit_value_of, value_of, term_of}
use Rattle.dual_model.proofs.Patterns.{best_pattern, better}
use Rattle.dual_model.proofs.Terms.{least_reduced_cost, greatest_bound, corner_least, pair_least}
use Rattle.dual_model.specs.Prelude.{alone, stuck_unit, zero_prices}
use Rattle.dual_model.proofs.examples.decided_nodes_are_computed.Goals as goal

pub returns : goal.returns
unfolding node_value_of units_value_of unit_value_of best_pattern better value_of term_of least_reduced_cost greatest_bound corner_least pair_least
returns c = record { off = value refl refl; on = value refl refl; turned = value refl refl; barred = value refl refl; last_stop = value refl refl; empty = computed_empty (zero_prices (alone stuck_unit 30 5)) refl refl }
