-- Dispatch in merit order: no watt can move to a cheaper source. Source: economic dispatch by the merit order of incremental
-- costs; that renewable units come first among sources of one slope, and then the order of the file, is this project's own.
use Rattle.std.specs.Prelude.{◌≡◌, ℕ, ◌<◌, ℤ, pos, ◌+ℤ◌, ◌-ℤ◌, ◌*ℤ◌, ◌≤ℤ◌, ◌<ℤ◌, ◌⊎◌, ⊤}
use Rattle.std.specs.Int.{int_min, int_max}
use Rattle.uc_model.specs.Prelude.{sum_below, thermal_unit, thermal_count}
pub use Rattle.uc_model.specs.declared.instance.Instance.{Instance}
use Rattle.cost_curves.specs.LeastCost.{IsLeftSlope, IsRightSlope}
pub use Rattle.cost_curves.specs.declared.slope.Slope.{Slope}
use Rattle.dispatch_repair.specs.Period.{Period, Source, FromRenewable, FromThermal, IsSourceOf, low_of, high_of, head_of, thermal_sum, total_output, thermal_limit, demand_of, need_of}

-- the cost of a source's next watt above this output, and of its last one below; a renewable unit's are free
abbrev pub HasNextSlope : Instance → Source → ℤ → Slope → Type 0
HasNextSlope instance (FromRenewable w) amount slope = (slope.rise ≡ pos 0) × (pos 0 <ℤ slope.run)
HasNextSlope instance (FromThermal g) amount slope = IsRightSlope (thermal_unit instance g).points amount slope

abbrev pub HasLastSlope : Instance → Source → ℤ → Slope → Type 0
HasLastSlope instance (FromRenewable w) amount slope = (slope.rise ≡ pos 0) × (pos 0 <ℤ slope.run)
HasLastSlope instance (FromThermal g) amount slope = IsLeftSlope (thermal_unit instance g).points amount slope

-- renewable units come before thermal ones, and each kind in the order of the file
abbrev pub ComesBefore : Source → Source → Type 0
ComesBefore (FromRenewable v) (FromRenewable w) = v < w
ComesBefore (FromRenewable v) (FromThermal g) = ⊤
ComesBefore (FromThermal g) (FromRenewable w) = ⊥
ComesBefore (FromThermal g) (FromThermal h) = g < h

-- a source of this slope is preferred to another of that slope: the slope is lower, or the same and the source comes before
abbrev pub IsPreferred : Source → Slope → Source → Slope → Type 0
IsPreferred to slope from other =
    ((slope.rise *ℤ other.run) <ℤ (other.rise *ℤ slope.run))
    ⊎ (((slope.rise *ℤ other.run) ≡ (other.rise *ℤ slope.run)) × ComesBefore to from)

-- by how much a watt of the source counts among the thermal units
abbrev pub thermal_part : Source → ℤ
thermal_part (FromRenewable w) = pos 0
thermal_part (FromThermal g) = pos 1

-- a watt can move from one source to another inside their ranges and within the limit on the thermal units
pub record CanMove (period : Period) (amount : Source → ℤ) (from to : Source) : Type 0 where
  pub source : IsSourceOf period.instance from
  pub target : IsSourceOf period.instance to
  pub down : low_of period from <ℤ amount from
  pub up : amount to <ℤ high_of period to
  pub limit : (thermal_sum period amount +ℤ thermal_part to -ℤ thermal_part from) ≤ℤ thermal_limit period

-- the outputs meet demand in merit order
pub record IsInMeritOrder (period : Period) (amount : Source → ℤ) : Type 0 where
  pub low : (s : Source) → IsSourceOf period.instance s → low_of period s ≤ℤ amount s
  pub high : (s : Source) → IsSourceOf period.instance s → amount s ≤ℤ high_of period s
  pub demand : total_output period amount ≡ demand_of period
  pub limit : thermal_sum period amount ≤ℤ thermal_limit period
  pub merit : (from to : Source) (last next : Slope) → CanMove period amount from to
      → HasLastSlope period.instance from (amount from) last → HasNextSlope period.instance to (amount to) next → ¬ IsPreferred to next from last

-- reserve is given to the units in the order of the file, each up to its head, until what is needed is reached
abbrev pub IsReserveInOrder : Period → (Source → ℤ) → (ℕ → ℤ) → Type 0
IsReserveInOrder period amount reserve =
    (g : ℕ) → g < thermal_count period.instance →
    reserve g ≡ int_min (head_of period g -ℤ amount (FromThermal g)) (int_max (need_of period -ℤ sum_below g reserve) (pos 0))
