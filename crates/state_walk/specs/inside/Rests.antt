-- What is left of a run, by the output before it, as a convex function.
use Rattle.std.specs.Prelude.{ℕ, suc, ◌+◌, ◌*◌, ◌≤◌, false, ◌==◌}
use Rattle.uc_model.specs.Prelude.{cell_cap}
use Rattle.step_functions.specs.Functions.{run_count}
use Rattle.hull_function.specs.Hours.{IsCostsOf, with_output}
use Rattle.state_walk.specs.inside.CostToEnd.{cost_to_end}
use Rattle.state_walk.specs.inside.Problems.{Steps, Table, Thermal}
pub use Rattle.state_walk.specs.declared.rest.Rest.{Rest}
pub use Rattle.state_walk.specs.declared.endings.Endings.{Endings}

-- room for a function over as many hours as there are periods, of a unit with this hull
abbrev pub HasRoom : ℕ → Steps → Steps → Type 0
HasRoom periods hull f = ((periods + 2) * (hull.room + 2)) ≤ f.room

pub record HaveRoom (periods : ℕ) (hull : Steps) (endings : Endings) : Type 0 where
  pub rest : HasRoom periods hull endings.rest.function
  pub cut : HasRoom periods hull endings.cut

-- the last n hours of a run, from period t on, by the output before them: their costs, and of how many pieces the function is
pub record IsRest (periods : ℕ) (table : Table) (unit : Thermal) (hull : Steps) (n t : ℕ) (rest : Rest) : Type 0 where
  pub costs : IsCostsOf rest.alive rest.function (cost_to_end periods table unit n t false)
  pub pieces : run_count rest.function ≤ suc n * (hull.room + 2)
  pub room : HasRoom periods hull rest.function

-- and those of the hour in period t and the n behind it, by the output in it
pub record IsHoursFrom (periods : ℕ) (table : Table) (unit : Thermal) (hull : Steps) (n t : ℕ) (rest : Rest) : Type 0 where
  pub costs : IsCostsOf rest.alive rest.function
      (with_output table unit t (cell_cap periods unit t false (n == 0)) (cost_to_end periods table unit n (suc t) false))
  pub pieces : run_count rest.function ≤ suc n * (hull.room + 2) + hull.room
  pub room : HasRoom periods hull rest.function
