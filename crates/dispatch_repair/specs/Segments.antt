-- The segments of the sources of an instance, and their order by merit: what filling a period needs of them. Source: the
-- merit order of incremental costs in economic dispatch.
use Rattle.std.specs.Prelude.{◌≡◌, ℕ, suc, ◌+◌, ◌-◌, ◌<◌, ◌≤◌, Bool, false, ◌&&◌, ◌||◌, nat_lt, List, ℤ, pos, ◌-ℤ◌, ◌*ℤ◌, ◌≤ℤ◌, ◌<ℤ◌, int_lt, length, All, slice_index_or, if◌then◌else◌}
use Rattle.std.specs.Int.{int_max}
use Rattle.std.specs.Ordering.{int_eq}
use Rattle.std.specs.List.{Contains}
pub use Rattle.uc_model.specs.declared.limits.TheConstants.{MAX_POWER}
use Rattle.uc_model.specs.Prelude.{point_of, thermal_unit, thermal_count, renewable_count, point_p, point_count}
pub use Rattle.uc_model.specs.declared.instance.Instance.{Instance}
pub use Rattle.uc_model.specs.declared.instance.Point.{Point}
use Rattle.dispatch_repair.specs.Period.{Source, FromRenewable, FromThermal}
use Rattle.dispatch_repair.specs.MeritOrder.{Slope, HasNextSlope}
pub use Rattle.dispatch_repair.specs.declared.segment.Segment.{Segment}

-- the sources in their places: renewable units, then thermal ones
abbrev pub source_count : Instance → ℕ
source_count instance = renewable_count instance + thermal_count instance

abbrev pub source_at : Instance → ℕ → Source
source_at instance n = if nat_lt n (renewable_count instance) then FromRenewable n else FromThermal (n - renewable_count instance)

-- the width that a slope is over, of a watt at least
abbrev pub width_of : Slope → ℤ
width_of slope = int_max slope.run (pos 1)

-- one segment comes before another: its slope is lower, or the same and its source comes before
abbrev pub comes_before : Segment → Segment → Bool
comes_before first second =
    int_lt (first.slope.rise *ℤ width_of second.slope) (second.slope.rise *ℤ width_of first.slope)
    || (int_eq (first.slope.rise *ℤ width_of second.slope) (second.slope.rise *ℤ width_of first.slope)
    && nat_lt first.source second.source)

-- one slope is at most another
abbrev pub IsAtMost : Slope → Slope → Type 0
IsAtMost slope other = (slope.rise *ℤ other.run) ≤ℤ (other.rise *ℤ slope.run)

-- a segment of a source: no watt below its end costs more than it
pub record IsSegmentOf (instance : Instance) (segment : Segment) : Type 0 where
  pub source : segment.source < source_count instance
  pub run : pos 0 <ℤ segment.slope.run
  pub below : (amount : ℤ) (slope : Slope) → amount <ℤ segment.end
      → HasNextSlope instance (source_at instance segment.source) amount slope → IsAtMost slope segment.slope

-- the watt above an amount of source n lies on the segment, and costs no less
pub record IsNextOn (instance : Instance) (n : ℕ) (amount : ℤ) (segment : Segment) : Type 0 where
  pub source : segment.source ≡ n
  pub end : amount <ℤ segment.end
  pub above : (slope : Slope) → HasNextSlope instance (source_at instance n) amount slope → IsAtMost segment.slope slope

-- all that renewable unit w may give, which is free
abbrev pub free_segment : ℕ → Segment
free_segment w = record { source = w; end = pos MAX_POWER; slope = record { rise = pos 0; run = pos 1 } }

-- the segment from a corner of a unit's curve to the next one, by outputs above the first corner's
abbrev pub corner_segment : ℕ → List Point → ℕ → Segment
corner_segment source corners i = record {
  source = source;
  end = (point_of corners (suc i)).mw -ℤ (point_of corners 0).mw;
  slope = record {
    rise = (point_of corners (suc i)).cost -ℤ (point_of corners i).cost;
    run = (point_of corners (suc i)).mw -ℤ (point_of corners i).mw;
  };
}

-- how far a source's cost is known
abbrev pub width_at : Instance → Source → ℤ
width_at instance (FromRenewable w) = pos MAX_POWER
width_at instance (FromThermal g) = point_p (thermal_unit instance g) (point_count (thermal_unit instance g) - 1)

-- each watt of source n lies on one of the segments
abbrev pub IsCovered : Instance → List Segment → ℕ → Type 0
IsCovered instance segments n =
    (amount : ℤ) → pos 0 ≤ℤ amount → amount <ℤ width_at instance (source_at instance n)
    → (segment : Segment) × Contains segments segment × IsNextOn instance n amount segment

-- the segments of the first n sources
pub record AreSegmentsOf (instance : Instance) (n : ℕ) (segments : List Segment) : Type 0 where
  pub each : All (IsSegmentOf instance) segments
  pub covered : (m : ℕ) → m < n → IsCovered instance segments m

-- a segment where there is none
abbrev pub no_segment : Segment
no_segment = record { source = 0; end = pos 0; slope = record { rise = pos 0; run = pos 0 } }

abbrev pub segment_at : List Segment → ℕ → Segment
segment_at segments i = slice_index_or segments i no_segment

-- all segments, in order of merit
pub record AreInMeritOrder (instance : Instance) (order : List Segment) : Type 0 where
  pub segments : AreSegmentsOf instance (source_count instance) order
  pub sorted : (i j : ℕ) → i ≤ j → j < length order → comes_before (segment_at order j) (segment_at order i) ≡ false
