-- The words that clauses, specifications and proofs cite, passed on from one place. Declares nothing.
pub use Rattle.uc_model.specs.Division.{IsCeiling, IsFloor, quotient_up}
pub use Rattle.uc_model.specs.Sums.{all_below, any_below, bit, least_below, sum_below}
pub use Rattle.uc_model.specs.Commitment.{Commitment, KeepsMinimumTimes, Thermal, cap, cell_cap, initial_down_at, initial_p, initial_stop_holds, initial_up_at, is_allowed, is_allowed_at, keeps_minimum_at, minimum_down_at, minimum_up_at, must_run_at, start_cap, start_reduction, starts, state_before, stop_cap, stop_reduction, stops, was_on}
pub use Rattle.uc_model.specs.PatternBits.{Pattern, commitment_of}
pub use Rattle.uc_model.specs.ExtremePatterns.{HasExactlyOne, HasNoAllowedPattern, IsFewestOn, IsMostOn, on_during, on_periods}
pub use Rattle.uc_model.specs.StartCategory.{Thermal, category_cost, category_count, category_holds_at, category_lag, has_stop_within, is_barred, is_category_allowed, last_stop, may_cost_as, sigma, start_row, stopped_within}
pub use Rattle.uc_model.specs.Switches.{has_lasted, may_start, may_stop}
pub use Rattle.uc_model.specs.Points.{Point, output_of, point_of, weighted_cost, weighted_output, weighted_total}
pub use Rattle.uc_model.specs.Schedule.{Instance, Row, Schedule, demand_at, most_shed, most_short, no_unit, p_at, p_before, point, point_count, point_p, renewable_count, renewable_maximum, renewable_minimum, renewable_unit, reserve_at, thermal_count, thermal_unit, weight_sum}
pub use Rattle.uc_model.specs.Rules.{Category, Demand, InitialDown, InitialStop, InitialUp, MinimumDown, MinimumUp, MustRun, Obeys, Production, RampDown, RampUp, RenewableRange, Reserve, Rule, ShedRange, ShortRange, StartCap, StopCap, holds_at, production_at, reserve_supply_at, rule_number, rule_periods, rule_units, shortage_holds, stop_cap_at, supply_at, thermal_output}
pub use Rattle.uc_model.specs.Cost.{cell_cost, cost, production_cost, shortage_cost, unit_cost}
pub use Rattle.uc_model.specs.Hull.{Segment, first_below, first_segment, from_left, hull_cost, is_above_line, is_hull_point, is_hull_segment, or_else, rise, run, segment_at, segment_cost, segment_from, segment_holds, segment_width, to_right}
pub use Rattle.uc_model.specs.PrintedSchedule.{HasShapeOf, LacksNothing, Printed, cell_at, cell_weight, cell_width, printed_cell_cost, printed_cost, printed_denominator, printed_schedule, printed_shortage_cost, product_below, refused_weight, segment_weight, shed_at, short_at, watt_denominator, width_on}
pub use Rattle.uc_model.specs.Limits.{COST_MAX, IsCost, IsLawfulInstance, IsLawfulRenewable, IsLawfulThermal, IsLimit, IsPower, MAX_COST, MAX_POWER, MAX_SHORTAGE_COST, greatest_shortage_cost}
pub use Rattle.uc_model.specs.Tolerance.{tolerance_of}
pub use Rattle.uc_model.specs.Terms.{period_count, place, price_at, term_at}
pub use Rattle.uc_model.specs.Examples.{Example, base_unit, bent_unit, breaking, broken_rules, cold_unit, dollars, mw, off, printed_cost_of, system, two_category_unit, uneven_unit}
