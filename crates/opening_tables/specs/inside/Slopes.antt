-- The slopes of units while the greatest is looked for.
use Rattle.std.specs.Prelude.{ℕ, ◌<◌, IsTrue, List, ℤ, pos, ◌*ℤ◌, ◌≤ℤ◌, int_lt, slice_index_or, Option, Some, None, MatchOption, if◌then◌else◌}
use Rattle.uc_model.specs.Prelude.{cell_at, thermal_count, thermal_unit}
pub use Rattle.uc_model.specs.declared.instance.Instance.{Instance}
pub use Rattle.uc_model.specs.declared.instance.Point.{Point}
pub use Rattle.uc_model.specs.declared.schedule.Cell.{Cell}
pub use Rattle.uc_model.specs.declared.schedule.Printed.{Printed}
use Rattle.cost_curves.specs.LowerHull.{IsLowerHull, width_of}
use Rattle.cost_curves.specs.LeastCost.{IsLeftSlope}
use Rattle.dual_model.specs.Prelude.{IsPrice}
use Rattle.opening_tables.specs.Marginal.{Slope, IsGreatestSlope, IsMarginalPrice, IsNoneRunning, IsRunning}

-- the outputs of on cells are on their units' curves
abbrev pub AreOutputsWithin : Instance → Printed → Type 0
AreOutputsWithin instance printed =
    (g t : ℕ) → g < thermal_count instance → t < instance.periods → IsTrue (cell_at printed g t).on
    → (cell_at printed g t).p ≤ℤ width_of (thermal_unit instance g).points

-- the slope of a running cell on the curve
pub record IsCellSlope (curve : List Point) (cell : Cell) (slope : Slope) : Type 0 where
  pub running : IsRunning cell
  pub left : (points : List Point) → IsLowerHull points curve → IsLeftSlope points cell.p slope

-- the greater of two slopes, the first where they are equal
abbrev pub steeper_slope : Slope → Slope → Slope
steeper_slope first second = if int_lt (first.rise *ℤ second.run) (second.rise *ℤ first.run) then second else first

-- the greater of two, of which either may be missing
abbrev pub steeper_of : Option Slope → Option Slope → Option Slope
steeper_of None second = second
steeper_of (Some first) None = Some first
steeper_of (Some first) (Some second) = Some (steeper_slope first second)

-- the greatest slope of the first n units in period t, or none where none runs
abbrev pub IsGreatestOf : Instance → Printed → ℕ → ℕ → Option Slope → Type 0
IsGreatestOf instance printed t n slope = MatchOption slope (IsNoneRunning printed t n) (IsGreatestSlope instance printed t n)

-- the first n numbers are the marginal prices of their periods
pub record IsPriced (instance : Instance) (printed : Printed) (t : ℕ) (price : ℤ) : Type 0 where
  pub marginal : IsMarginalPrice instance printed t price
  pub size : IsPrice price

abbrev pub ArePriced : Instance → Printed → ℕ → List ℤ → Type 0
ArePriced instance printed n prices = (t : ℕ) → t < n → IsPriced instance printed t (slice_index_or prices t (pos 0))
