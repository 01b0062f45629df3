-- The problem of one thermal unit at a price table: how large its numbers are. The limits are this project's.
use Rattle.std.specs.Prelude.{◌≡◌, ℕ, ◌<◌, ◌≤◌, unsigned_abs, length}
use Rattle.uc_model.specs.Prelude.{IsLawfulThermal}
pub use Rattle.uc_model.specs.declared.limits.TheConstants.{MAX_PERIODS, MAX_POWER}
pub use Rattle.dual_model.specs.declared.limits.TheConstants.{MAX_PRICE}
use Rattle.dual_model.specs.Prelude.{pi_at, mu_at}
use Rattle.step_functions.specs.Functions.{run_count}
pub use Rattle.unit_runs.specs.Runs.{Table, Thermal}
use Rattle.hull_function.specs.Hulls.{Steps, IsHull, IsScale}

-- a lawful unit, and prices within the limits for each of the periods
pub record IsLawfulProblem (periods : ℕ) (table : Table) (unit : Thermal) : Type 0 where
  pub periods_are : (1 ≤ periods) × (periods ≤ MAX_PERIODS)
  pub unit_is : IsLawfulThermal unit
  pub scale : IsScale table.k
  pub demand : length table.pi ≡ periods
  pub reserve : length table.mu ≡ periods
  pub demand_price : (t : ℕ) → t < periods → unsigned_abs (pi_at table t) ≤ MAX_PRICE
  pub reserve_price : (t : ℕ) → t < periods → unsigned_abs (mu_at table t) ≤ MAX_PRICE

-- L on the unit's points, of no more runs than there is room for
pub record HasHull (table : Table) (unit : Thermal) (hull : Steps) : Type 0 where
  pub function : IsHull unit.points table.k hull
  pub pieces : run_count hull ≤ hull.room
