-- Raising amounts segment by segment, in order of merit. Source: economic dispatch by the merit order of incremental costs.
use Rattle.std.specs.Prelude.{◌≡◌, ◌≢◌, ℕ, ◌+◌, ◌<◌, ◌≤◌, ◌⊎◌, List, ℤ, pos, ◌+ℤ◌, ◌-ℤ◌, ◌≤ℤ◌, ◌<ℤ◌, length}
use Rattle.std.specs.Int.{int_min}
use Rattle.uc_model.specs.Prelude.{sum_below, thermal_count, renewable_count}
pub use Rattle.uc_model.specs.declared.limits.TheConstants.{MAX_POWER, MAX_UNITS}
use Rattle.dispatch_repair.specs.Period.{Instance, Period, demand_of, need_of, low_of, high_of, thermal_limit, thermal_sum, total_output}
use Rattle.dispatch_repair.specs.Shortage.{reserve_room}
use Rattle.dispatch_repair.specs.MeritOrder.{Slope, HasNextSlope}
use Rattle.dispatch_repair.specs.Stuck.{HaveRanges}
use Rattle.dispatch_repair.specs.Amounts.{Range, range_at, amount_at, thermal_amount, IsSizedEnd}
use Rattle.dispatch_repair.specs.Segments.{Segment, IsAtMost, source_at, source_count, width_at, segment_at}
use Rattle.dispatch_repair.specs.Filled.{AreShortages, served_by}
use Rattle.dispatch_repair.specs.Totals.{IsSizedLeft}
pub use Rattle.dispatch_repair.specs.declared.fill.Left.{Left}
pub use Rattle.dispatch_repair.specs.declared.period.PeriodStart.{PeriodStart}

-- what is left isn't negative, and has the size of a sum over units
pub record IsLeft (left : Left) : Type 0 where
  pub need : pos 0 ≤ℤ left.need
  pub room : pos 0 ≤ℤ left.room
  pub need_size : IsSizedLeft left.need
  pub room_size : IsSizedLeft left.room

-- each range lies where the source's cost is known
pub record IsOpen (instance : Instance) (n : ℕ) (range : Range) : Type 0 where
  pub low : pos 0 ≤ℤ range.low
  pub order : range.low ≤ℤ range.high
  pub known : range.high ≤ℤ width_at instance (source_at instance n)
  pub size : IsSizedEnd range.high

-- where a segment ends within its source's range
abbrev pub end_of : List Range → Segment → ℤ
end_of ranges segment = int_min segment.end (range_at ranges segment.source).high

-- a segment's part of the range is full; or nothing is left that its source might give
abbrev pub IsFull : List Range → List ℤ → Segment → Type 0
IsFull ranges amounts segment = end_of ranges segment ≤ℤ amount_at amounts segment.source

abbrev pub IsSpent : ℕ → Left → Segment → Type 0
IsSpent renewables left segment = (left.need ≡ pos 0) ⊎ ((renewables ≤ segment.source) × (left.room ≡ pos 0))

-- a segment's source was raised within what is left
pub record IsRaise (renewables : ℕ) (ranges : List Range) (segment : Segment) (old new : List ℤ) (before after : Left) : Type 0 where
  pub more : ℤ
  pub up : pos 0 ≤ℤ more
  pub amount : amount_at new segment.source ≡ amount_at old segment.source +ℤ more
  pub others : (n : ℕ) → n ≢ segment.source → amount_at new n ≡ amount_at old n
  pub count : length new ≡ length old
  pub need : after.need ≡ before.need -ℤ more
  pub free : segment.source < renewables → after.room ≡ before.room
  pub thermal : renewables ≤ segment.source → after.room ≡ before.room -ℤ more
  pub left : IsLeft after
  pub within : pos 0 <ℤ more → amount_at new segment.source ≤ℤ end_of ranges segment
  pub done : IsFull ranges new segment ⊎ IsSpent renewables after segment

-- a slope at one source is at most another's, and where they are equal its source comes no later
pub record CostsUpTo (one : Slope) (n : ℕ) (other : Slope) (m : ℕ) : Type 0 where
  pub slope : IsAtMost one other
  pub source : IsAtMost other one → n ≤ m

-- a watt that was taken costs up to a segment; or it is a renewable unit's, when the thermal units had no room left
abbrev pub IsWorth : Instance → Segment → Left → ℕ → ℤ → Type 0
IsWorth instance segment left n watt =
    ((slope : Slope) → HasNextSlope instance (source_at instance n) watt slope → CostsUpTo slope n segment.slope segment.source)
    ⊎ ((n < renewable_count instance) × (renewable_count instance ≤ segment.source) × (left.room ≡ pos 0))

-- a watt of a source above the low end of its range
pub record IsTaken (instance : Instance) (ranges : List Range) (amounts : List ℤ) (n : ℕ) (watt : ℤ) : Type 0 where
  pub source : n < source_count instance
  pub low : (range_at ranges n).low ≤ℤ watt
  pub high : watt <ℤ amount_at amounts n

-- the amounts with what is left add up to what they were
pub record AddsUp (instance : Instance) (ranges : List Range) (start left : Left) (amounts : List ℤ) : Type 0 where
  pub need : left.need +ℤ sum_below (source_count instance) (amount_at amounts)
      ≡ start.need +ℤ sum_below (source_count instance) (λ n. (range_at ranges n).low)
  pub room : left.room +ℤ sum_below (thermal_count instance) (thermal_amount instance amounts)
      ≡ start.room +ℤ sum_below (thermal_count instance) (λ g. (range_at ranges (renewable_count instance + g)).low)

-- the first i segments were filled
pub record IsFilledTo (instance : Instance) (order : List Segment) (ranges : List Range) (start : Left) (i : ℕ) (amounts : List ℤ) (rest : Left) : Type 0 where
  pub count : length amounts ≡ source_count instance
  pub low : (n : ℕ) → n < source_count instance → (range_at ranges n).low ≤ℤ amount_at amounts n
  pub high : (n : ℕ) → n < source_count instance → amount_at amounts n ≤ℤ (range_at ranges n).high
  pub sums : AddsUp instance ranges start rest amounts
  pub left : IsLeft rest
  -- of each, its part is full or nothing is left for it
  pub spent : (j : ℕ) → j < i → IsFull ranges amounts (segment_at order j) ⊎ IsSpent (renewable_count instance) rest (segment_at order j)
  -- and where it isn't full, no watt that was taken costs more
  pub merit : (j : ℕ) → j < i → IsFull ranges amounts (segment_at order j)
      ⊎ ((n : ℕ) (watt : ℤ) → IsTaken instance ranges amounts n watt → IsWorth instance (segment_at order j) rest n watt)
  -- nor more than a segment that comes later
  pub ahead : (j : ℕ) → i ≤ j → j < length order → (n : ℕ) (watt : ℤ) → IsTaken instance ranges amounts n watt
      → (slope : Slope) → HasNextSlope instance (source_at instance n) watt slope → CostsUpTo slope n (segment_at order j).slope (segment_at order j).source

-- demand and the limit without what each source has to give at least
pub record IsFirstLeft (period : Period) (left : Left) : Type 0 where
  pub need : left.need ≡ demand_of period -ℤ total_output period (low_of period)
  pub room : left.room ≡ thermal_limit period -ℤ thermal_sum period (low_of period)

-- the period can be filled: demand lies between the least and the most that all give, and the reserve has room beside it
pub record IsFillable (period : Period) : Type 0 where
  pub ranges : HaveRanges period (thermal_count period.instance)
  pub least : total_output period (low_of period) ≤ℤ demand_of period
  pub most : demand_of period ≤ℤ total_output period (high_of period)
  pub reserve : need_of period ≤ℤ reserve_room period

-- this is missing, the rest can be filled, and this is left of it at first
pub record IsStart (period : Period) (start : PeriodStart) : Type 0 where
  pub shortages : AreShortages period start.shortage
  pub fillable : IsFillable (served_by period start.shortage)
  pub first : IsFirstLeft (served_by period start.shortage) start.left
  pub sizes : IsLeft start.left
