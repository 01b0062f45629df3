-- The words that clauses, specifications and proofs cite, passed on from one place. Declares nothing.
pub use Rattle.dual_model.specs.PriceTable.{PriceTable}
pub use Rattle.dual_model.specs.Prices.{ArePlacesOf, AreRising, HasLawfulSigns, HasSizeOf, Instance, IsLawfulTable, IsPrice, IsRowBefore, IsRowPriced, IsRowSigned, IsRowWithin, IsWellFormed, IsWithinLimits, RampRow, Table, down_at, mu_at, pi_at, row_of, rows_before, unit_rows, up_at}
pub use Rattle.dual_model.specs.Fixings.{Fix, Fixing, HasEmptyUnit, Instance, IsCell, IsFirstEmpty, IsFixOf, IsNodeOf, IsPatternAt, Node, fix_agrees, keeps, keeps_of, unit_agrees}
pub use Rattle.dual_model.specs.Term.{Instance, IsCellBound, IsTerm, IsTermAt, Point, output_of, output_price, point_of, reserve_price, weighted_cost, weighted_output, weighted_total}
pub use Rattle.dual_model.specs.UnitValue.{IsBestPattern, IsPatternValue, IsUnitValue, Thermal, period_value}
pub use Rattle.dual_model.specs.NodeValue.{IsNodeValue, Table, constant_at, needs_value, node_total, renewable_part, renewable_value, renewables_value, shortage_value, shortages_value, system_value, unit_constant, unit_part}
pub use Rattle.dual_model.specs.ExactValue.{HasNoUnitSchedule, HasUnscheduledUnit, Instance, IsExactNodeValue, IsExactUnitValue, IsFirstUnscheduled, IsLeastWholeValue, IsUnitSchedule, IsUnitScheduleAt, Node, Point, Table, Thermal, UnitSchedule, exact_cell_value, exact_part, exact_period_value, floored_slope, greatest_output, output_before, parts_total, slope_from, unit_schedule_value}
pub use Rattle.dual_model.specs.ValueKind.{HasBlockedUnit, IsBlocked, IsFirstBlocked, IsValueOf}
pub use Rattle.dual_model.specs.NodeAnswer.{IsPartOf, IsValued, MAX_PART, MAX_VALUE}
pub use Rattle.dual_model.specs.Tree.{EachLeaf, Ends, HasEachPattern, IsCover, IsCoverBelow, Splits, Tree, agreeing_leaves, any_leaf, child, is_decided, map_leaves, root}
pub use Rattle.dual_model.specs.Cover.{AllExcluded, Bound, Empty, HasBoundOf, HasPositiveValue, Holds, IsBoundedBy, IsExcluded, IsExcludedByRay, IsTableBound, Leaf, LeafHolds, Ray, ReachesBoundOf, has_bound, is_bound}
pub use Rattle.dual_model.specs.Certificate.{Certificate, CertificateHolds, ClaimHolds, ScheduleHolds, WrittenSchedule}
pub use Rattle.dual_model.specs.Opening.{HasRayNumbers, IsShortageRay, OpeningRay, ZERO_SCALE, falls_short, first_row, first_rows, no_ray, nowhere, period_rays, price_in, ramp_rays, ray_at, ray_count, ray_period, ray_prices, ray_table, rises_short, stays_below, unpriced_table, zero_table}
pub use Rattle.dual_model.specs.LeastStarts.{cell_cost_by_least_starts, cost_by_least_starts, least_start_cost, unit_cost_by_least_starts}
pub use Rattle.dual_model.specs.Laws.{AreTablesLawful, BlockedUnitsExclude, CertificatesClaimTruly, ChildBound, CoversBound, CoversExclude, ExactUnitValuesAreUnique, ExactUnitValuesExist, ExactValuesAreLeast, ExactValuesReach, ExactValuesRise, HasLawfulTable, IsBoundTable, IsClaimTrue, IsInfeasible, IsLawfulAt, IsLowerBound, IsScheduleAt, LeastWholeValuesAreExact, LeavesPart, RaysExclude, SchedulesAreUnitSchedules, ShortageRaysExcludeNothing, ValuesAreUnique, ValuesExist, ValuesExistAtSchedules, WeakDuality, WeakDualityOfLeastStarts, WholeWattsBound, WholeWattsExist}
pub use Rattle.dual_model.specs.UnitTerms.{AreSizedTerms, IsSized, MAX_PERIODS, MAX_TERM, MAX_UNIT_PRICE, Terms, Thermal}
pub use Rattle.dual_model.specs.PatternValue.{Fix, IsLeastValue, IsPattern, Terms, Thermal, is_followed, pattern_value, term_of}
pub use Rattle.dual_model.specs.TableValue.{ArePricesOf, AreRowsOf, AreTermsFor, AreTermsOf, AreTermsOfRows, IsCellTerm, IsLawfulRow, IsLawfulScale, IsTermOfRow, IsUnitValueOf, row_at}
pub use Rattle.dual_model.specs.Bellman.{EndCosts, MoveCosts, least_cost, lesser_of, since_after, total_of, way_cost}
pub use Rattle.dual_model.specs.Choices.{Choice, IsOneOf, choice_cost, ends_at, next_after}
pub use Rattle.dual_model.specs.Traces.{AreLeast, Choices, IsAttained, IsLeastBehind, IsTraced, Stretch, Trace, lasting, stretch, stretch_behind, switch_total}
pub use Rattle.dual_model.specs.Moves.{Fix, Terms, Thermal, allowed, holds_initially, hour_and_start, hour_before, hour_cost, initial_limit, may_be_off, may_be_on, may_move, move, stop_since}
pub use Rattle.dual_model.specs.CostToGo.{IsWithin, MAX_COST_TO_GO, MAX_MOVE, cost_to_go, end_cost, lesser_of, since_after, total_of, way}
pub use Rattle.dual_model.specs.Examples.{alone, ray, scaled_dollars, sinking_unit, stuck_unit, zero_prices}
