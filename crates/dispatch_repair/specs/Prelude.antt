-- The words that clauses, specifications and proofs cite, passed on from one place. Declares nothing.
pub use Rattle.dispatch_repair.specs.Amounts.{AreBeforePeriod, AreHeadsOf, AreRangesOf, IsHeadOf, IsRangeOf, IsSizedEnd, IsSizedOutput, MAX_POWER, Range, amount_of, next_period, range_at, thermal_amount}
pub use Rattle.dispatch_repair.specs.Segments.{AreInMeritOrder, AreSegmentsOf, Instance, IsAtMost, IsCovered, IsNextOn, IsSegmentOf, Point, Segment, comes_before, corner_segment, free_segment, no_segment, segment_at, source_at, source_count, width_at, width_of}
pub use Rattle.dispatch_repair.specs.Stuck.{GoesOn, HasBalance, HasNoDispatch, HaveRanges, IsBox, IsCommitmentRule, IsDispatchFault, IsDispatchOf, IsFirstBrokenRule, IsFirstObstacle, IsFree, IsRegular, IsStuckBy, IsStuckInPeriod, IsStuckOf, KeepsDispatchRules, KeepsRule, Stuck, Why, stuck_period}
pub use Rattle.dispatch_repair.specs.Totals.{AreSizedTotals, AreTotalsOf, IsSizedLeft, IsSizedSum, IsSizedTotal, IsSum, MAX_POWER, MAX_UNITS, Totals}
pub use Rattle.dispatch_repair.specs.Rooms.{AreCommitted, AreSameBelow, IsNewCell, IsObstacleOf, IsRoomOf, IsStuckAfter, Obstacle, Rows, printed_of, rows_of}
pub use Rattle.dispatch_repair.specs.MostOn.{AreMostOn, Instance, IsFirstWithoutPattern, IsMostFault, IsMostOnOf, IsOffFrom, Pattern}
pub use Rattle.dispatch_repair.specs.Filled.{AreShortages, IsDispatchedFrom, Shortage, served_by}
pub use Rattle.dispatch_repair.specs.Period.{FromRenewable, FromThermal, Instance, IsSourceOf, Pattern, Period, Printed, Source, Thermal, commitment_at, demand_of, head, head_of, high_of, highest, is_off_next, low_of, lowest, need_of, output_before, renewable_sum, thermal_limit, thermal_sum, total_output}
pub use Rattle.dispatch_repair.specs.Dispatch.{Cell, HasPeriods, Instance, IsCommittedCell, IsDispatchThrough, IsFilled, IsFilling, Pattern, Printed, period_after}
pub use Rattle.dispatch_repair.specs.OneDispatch.{AreSame, DispatchesAreSame, Instance, NeverBoth, Pattern, Printed, Stuck, StuckPeriodsAreSame}
pub use Rattle.dispatch_repair.specs.Filling.{AddsUp, CostsUpTo, IsFillable, IsFilledTo, IsFirstLeft, IsFull, IsLeft, IsOpen, IsRaise, IsSpent, IsStart, IsTaken, IsWorth, Left, PeriodStart, end_of}
pub use Rattle.dispatch_repair.specs.MeritOrder.{CanMove, ComesBefore, HasLastSlope, HasNextSlope, Instance, IsInMeritOrder, IsPreferred, IsReserveInOrder, Slope, thermal_part}
pub use Rattle.dispatch_repair.specs.Shortage.{greatest_room, lacking, reserve_room, served, shed_of, short_of, unmet}
