-- The prices of a dispatch: what the last watt costs of the steepest unit that runs, in each period. Source: marginal cost
-- pricing by the incremental costs of the running units; that a price is 0 where none runs above its minimum, and that it is
-- rounded down and kept within the limit, is this project's own.
--
-- Units and periods count from 0 here.
use Rattle.std.specs.Prelude.{◌≡◌, ℕ, ◌<◌, ◌⊎◌, IsTrue, [], ℤ, pos, neg_ℤ, ◌*ℤ◌, ◌≤ℤ◌, ◌<ℤ◌, replicate}
use Rattle.std.specs.Int.{int_min, int_max}
use Rattle.uc_model.specs.Prelude.{IsFloor, cell_at, thermal_count, thermal_unit}
pub use Rattle.uc_model.specs.declared.instance.Instance.{Instance}
pub use Rattle.uc_model.specs.declared.schedule.Cell.{Cell}
pub use Rattle.uc_model.specs.declared.schedule.Printed.{Printed}
use Rattle.cost_curves.specs.LeastCost.{IsLeftSlope}
pub use Rattle.cost_curves.specs.declared.slope.Slope.{Slope}
use Rattle.dual_model.specs.Prelude.{ZERO_SCALE, HasSizeOf, pi_at}
use Rattle.dual_model.specs.declared.limits.TheConstants.{MAX_PRICE}
use Rattle.dual_model.specs.declared.table.Table.{Table}

-- a unit runs: it is on, above its minimum
pub record IsRunning (cell : Cell) : Type 0 where
  pub on : IsTrue cell.on
  pub above : pos 0 <ℤ cell.p

-- the slope of unit g at its output in period t, on the left, if it runs there
pub record HasSlope (instance : Instance) (printed : Printed) (g t : ℕ) (slope : Slope) : Type 0 where
  pub running : IsRunning (cell_at printed g t)
  pub left : IsLeftSlope (thermal_unit instance g).points (cell_at printed g t).p slope

-- a slope is at most another
abbrev pub IsAtMost : Slope → Slope → Type 0
IsAtMost first second = (first.rise *ℤ second.run) ≤ℤ (second.rise *ℤ first.run)

-- the greatest slope in period t of the first n units
pub record IsGreatestSlope (instance : Instance) (printed : Printed) (t n : ℕ) (slope : Slope) : Type 0 where
  pub unit : ℕ
  pub within : unit < n
  pub attained : HasSlope instance printed unit t slope
  pub greatest : (g : ℕ) (other : Slope) → g < n → HasSlope instance printed g t other → IsAtMost other slope

-- none of the first n units runs in period t
abbrev pub IsNoneRunning : Printed → ℕ → ℕ → Type 0
IsNoneRunning printed t n = (g : ℕ) → g < n → ¬ IsRunning (cell_at printed g t)

-- a number, or where it is larger than m in size m with its sign
abbrev pub kept_within : ℕ → ℤ → ℤ
kept_within m z = int_max (int_min z (pos m)) (neg_ℤ (pos m))

-- the price at a slope: K times the slope, rounded down and kept within the limit
pub record IsPriceAt (slope : Slope) (price : ℤ) : Type 0 where
  pub whole : ℤ
  pub floor : IsFloor (ZERO_SCALE *ℤ slope.rise) slope.run whole
  pub kept : price ≡ kept_within MAX_PRICE whole

-- where some unit runs, the price at the greatest slope of such units; else 0
abbrev pub IsMarginalPrice : Instance → Printed → ℕ → ℤ → Type 0
IsMarginalPrice instance printed t price =
    ((slope : Slope) × (IsGreatestSlope instance printed t (thermal_count instance) slope × IsPriceAt slope price))
    ⊎ (IsNoneRunning printed t (thermal_count instance) × (price ≡ pos 0))

-- the table of the marginal prices of demand; all other prices are 0
pub record IsMarginalTable (instance : Instance) (printed : Printed) (table : Table) : Type 0 where
  pub size : HasSizeOf instance table
  pub scale : table.k ≡ ZERO_SCALE
  pub demand : (t : ℕ) → t < instance.periods → IsMarginalPrice instance printed t (pi_at table t)
  pub reserve : table.mu ≡ replicate instance.periods (pos 0)
  pub ramps : table.ramps ≡ []
