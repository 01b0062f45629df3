-- The problem of one thermal unit at a price table, with ramps kept.
use Rattle.std.specs.Prelude.{ℕ}
pub use Rattle.step_functions.specs.Functions.{Steps}
use Rattle.hull_function.specs.Problems.{HasHull, IsLawfulProblem}
pub use Rattle.hull_function.specs.Problems.{Table, Thermal, MAX_POWER, MAX_PRICE}

-- a lawful unit and prices within the limits, with L on the unit's points
pub record IsLawful (periods : ℕ) (table : Table) (unit : Thermal) (hull : Steps) : Type 0 where
  pub problem : IsLawfulProblem periods table unit
  pub hull_is : HasHull table unit hull
