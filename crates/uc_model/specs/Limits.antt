-- The limits on an instance's numbers, and its shape. Source: the fields of the pglib-uc format, with
-- this project's limits in size.
use Rattle.std.specs.Prelude.{◌≡◌, ℕ, suc, ◌<◌, ◌≤◌, ℤ, pos, ◌+ℤ◌, ◌*ℤ◌, ◌≤ℤ◌, unsigned_abs, length, All}
use Rattle.std.specs.Int.{int_max}
use Rattle.uc_model.specs.Sums.{sum_below}
use Rattle.uc_model.specs.Schedule.{Instance, point, point_count, thermal_unit, thermal_count, renewable_unit, renewable_count, renewable_minimum, renewable_maximum, most_shed, most_short}
use Rattle.uc_model.specs.StartCategory.{Thermal, start_row, category_count}
pub use Rattle.uc_model.specs.declared.limits.TheConstants.{MAX_PERIODS, MAX_UNITS, MAX_POINTS, MAX_START_ROWS, MAX_POWER, MAX_COST, MAX_TIME, MAX_PENALTY, MAX_SHORTAGE_COST, MAX_DENOMINATOR, COST_MAX}

abbrev pub IsPower : ℤ → Type 0
IsPower z = unsigned_abs z ≤ MAX_POWER

abbrev pub IsCost : ℤ → Type 0
IsCost z = unsigned_abs z ≤ MAX_COST

-- the limits of a power that can't be negative
pub record IsLimit (z : ℤ) : Type 0 where
  pub low : pos 0 ≤ℤ z
  pub power : IsPower z

pub record IsLawfulThermal (unit : Thermal) : Type 0 where
  pub minimum : IsLimit unit.pmin
  pub maximum : IsLimit unit.pmax
  pub range : unit.pmin ≤ℤ unit.pmax
  pub ramp_up : IsLimit unit.ru
  pub ramp_down : IsLimit unit.rd
  pub start_limit : IsLimit unit.su
  pub stop_limit : IsLimit unit.sd
  pub time_up : (1 ≤ unit.ut) × (unit.ut ≤ MAX_TIME)
  pub time_down : (1 ≤ unit.dt) × (unit.dt ≤ MAX_TIME)
  pub initial_output : IsPower unit.p0
  pub initial_time_up : unit.ut0 ≤ MAX_TIME
  pub initial_time_down : unit.dt0 ≤ MAX_TIME
  pub categories : (1 ≤ category_count unit) × (category_count unit ≤ MAX_START_ROWS)
  pub lags : (s : ℕ) → s < category_count unit → (start_row unit s).lag ≤ MAX_TIME
  pub start_costs : (s : ℕ) → s < category_count unit → IsCost (start_row unit s).cost
  pub points : (1 ≤ point_count unit) × (point_count unit ≤ MAX_POINTS)
  pub outputs : (l : ℕ) → l < point_count unit → IsPower (point unit l).mw
  pub costs : (l : ℕ) → l < point_count unit → IsCost (point unit l).cost
  pub rising : (l : ℕ) → suc l < point_count unit → (point unit l).mw ≤ℤ (point unit (suc l)).mw

pub record IsLawfulRenewable (instance : Instance) (w : ℕ) : Type 0 where
  pub minimum_length : length (renewable_unit instance w).minimum ≡ instance.periods
  pub maximum_length : length (renewable_unit instance w).maximum ≡ instance.periods
  pub minimum : (t : ℕ) → t < instance.periods → IsPower (renewable_minimum instance w t)
  pub maximum : (t : ℕ) → t < instance.periods → IsPower (renewable_maximum instance w t)
  pub range : (t : ℕ) → t < instance.periods →
      int_max (renewable_minimum instance w t) (pos 0) ≤ℤ renewable_maximum instance w t

-- the most that all shortages may cost at the prices a and b: a * sum of max(D,0) + b * sum of max(R,0)
abbrev pub greatest_shortage_cost : Instance → ℕ → ℕ → ℤ
greatest_shortage_cost instance a b =
    pos a *ℤ sum_below instance.periods (most_shed instance) +ℤ pos b *ℤ sum_below instance.periods (most_short instance)

pub record IsLawfulInstance (instance : Instance) : Type 0 where
  pub periods : (1 ≤ instance.periods) × (instance.periods ≤ MAX_PERIODS)
  pub demand_length : length instance.demand ≡ instance.periods
  pub reserves_length : length instance.reserves ≡ instance.periods
  pub demand : All IsPower instance.demand
  pub reserves : All IsPower instance.reserves
  pub thermal_units : thermal_count instance ≤ MAX_UNITS
  pub thermal : (g : ℕ) → g < thermal_count instance → IsLawfulThermal (thermal_unit instance g)
  pub renewable_units : renewable_count instance ≤ MAX_UNITS
  pub renewable : (w : ℕ) → w < renewable_count instance → IsLawfulRenewable instance w
  pub shed_price : instance.a ≤ MAX_PENALTY
  pub short_price : instance.b ≤ MAX_PENALTY
  pub shortages : greatest_shortage_cost instance instance.a instance.b ≤ℤ pos MAX_SHORTAGE_COST
