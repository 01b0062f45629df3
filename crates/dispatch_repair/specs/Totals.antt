-- The sums over a period's sources. This project's own.
use Rattle.std.specs.Prelude.{◌≡◌, ◌*◌, ◌≤◌, ℤ, unsigned_abs}
pub use Rattle.uc_model.specs.declared.limits.TheConstants.{MAX_POWER, MAX_UNITS}
use Rattle.dispatch_repair.specs.Period.{Period, low_of, high_of, heads as heads_of, minimums as minimums_of, thermal_sum, renewable_sum}
pub use Rattle.dispatch_repair.specs.declared.obstacle.Totals.{Totals}

-- a sum over units
abbrev pub IsSizedSum : ℤ → Type 0
IsSizedSum z = unsigned_abs z ≤ MAX_UNITS * (3 * MAX_POWER)

-- a total over all sources, and what is left of one
abbrev pub IsSizedTotal : ℤ → Type 0
IsSizedTotal z = unsigned_abs z ≤ MAX_UNITS * (10 * MAX_POWER)

-- by how much a demand is above a total
abbrev pub IsSizedUnmet : ℤ → Type 0
IsSizedUnmet z = unsigned_abs z ≤ MAX_UNITS * (11 * MAX_POWER)

-- what is missing of a demand or a need, and what is left of it
abbrev pub IsSizedMissing : ℤ → Type 0
IsSizedMissing z = unsigned_abs z ≤ MAX_UNITS * (35 * MAX_POWER)

abbrev pub IsSizedPart : ℤ → Type 0
IsSizedPart z = unsigned_abs z ≤ MAX_UNITS * (40 * MAX_POWER)

-- what is left to give
abbrev pub IsSizedLeft : ℤ → Type 0
IsSizedLeft z = unsigned_abs z ≤ MAX_UNITS * (50 * MAX_POWER)

-- a number that is a sum over units
pub record IsSum (number total : ℤ) : Type 0 where
  pub is : number ≡ total
  pub size : IsSizedSum number

pub record AreTotalsOf (period : Period) (totals : Totals) : Type 0 where
  pub minimums : IsSum totals.minimums (minimums_of period)
  pub thermal_low : IsSum totals.thermal_low (thermal_sum period (low_of period))
  pub thermal_high : IsSum totals.thermal_high (thermal_sum period (high_of period))
  pub heads : IsSum totals.heads (heads_of period)
  pub renewable_low : IsSum totals.renewable_low (renewable_sum period (low_of period))
  pub renewable_high : IsSum totals.renewable_high (renewable_sum period (high_of period))

-- each number is of the size of a sum over units
pub record AreSizedTotals (totals : Totals) : Type 0 where
  pub minimums : IsSizedSum totals.minimums
  pub thermal_low : IsSizedSum totals.thermal_low
  pub thermal_high : IsSizedSum totals.thermal_high
  pub heads : IsSizedSum totals.heads
  pub renewable_low : IsSizedSum totals.renewable_low
  pub renewable_high : IsSizedSum totals.renewable_high
