-- The words that clauses, specifications and proofs of other crates cite, passed on from one place. Declares nothing.
pub use Rattle.dispatch_rules.specs.Cells.{rise_at, segments, width_at}
pub use Rattle.dispatch_rules.specs.Dispatch.{Limit, Part, Task, amount_at, amounts, amounts_in, copies, cost_of, given_output, initial_at, is_demand, is_same, limit, limit_at, limits, limits_of, listed, low_at, part, parts, program, right_of, rule_from, times_in, times_of, unit_amounts, where_true}
pub use Rattle.dispatch_rules.specs.CommitmentTask.{AreAllowed, CostForms, IsTaskOf, MakingForms, Pattern, ScaleForms, commitment_at, cost_fraction, fraction_at, limit_of, rule_of, scale_to}
pub use Rattle.dispatch_rules.specs.Duals.{IsNodeOf, IsReadOff, IsTask, cost_times, down_of, left_cost, left_costs, scale_of, start_cost, start_costs, times_at, up_of}
pub use Rattle.dispatch_rules.specs.Primals.{AreSegments, IsDispatch, above_left, dispatch_cost, given_in, held_in, length_in, line_cost, one_if, output_before, output_in, shed_in, short_in, shortage_at, sum_of}
pub use Rattle.dispatch_rules.specs.Prints.{Printed, Prints}
pub use Rattle.dispatch_rules.specs.Rays.{HasRoom}
