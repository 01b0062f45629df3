-- Each example is computed.
use Rattle.std.proofs.Common.{refl}
use Rattle.dual_model.proofs.Computed.{computed_value as value}
use Rattle.dual_model.proofs.NodeValues.{node_value_of, units_value_of}
use Rattle.dual_model.proofs.UnitValues.{unit_value_of, value_of, term_of}
use Rattle.dual_model.proofs.Patterns.{best_pattern, better}
use Rattle.dual_model.proofs.Terms.{least_reduced_cost, greatest_bound, corner_least, pair_least}
use Rattle.dual_model.proofs.examples.shortages_are_computed.Goals as goal

pub returns : goal.returns
unfolding node_value_of units_value_of unit_value_of best_pattern better value_of term_of least_reduced_cost greatest_bound corner_least pair_least
returns c = record { met = value refl refl; passed = value refl refl; below = value refl refl; both = value refl refl; both_passed = value refl refl; ray = value refl refl }
