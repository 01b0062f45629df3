-- The state of a run that goes on: its function gives the costs of its hours so far by the last output.
use Rattle.std.specs.Prelude.{◌≡◌, ℕ, suc, ◌+◌, ◌*◌, ◌≤◌, true, ℤ, pos, neg_ℤ, nat_lt, Option, if◌then◌else◌}
use Rattle.dual_model.specs.Prelude.{greatest_output}
use Rattle.step_functions.specs.Functions.{run_count}
use Rattle.hull_function.specs.Hours.{IsCostsOf, IsNear, MAX_HOUR}
use Rattle.hull_function.specs.Hulls.{Steps, IsBounded}
use Rattle.unit_runs.specs.CostThrough.{cost_through, least_between}
use Rattle.unit_exact.specs.inside.Problems.{Table, Thermal}
pub use Rattle.unit_exact.specs.declared.runs.Runs.{Runs}

-- the least of the costs by the output before period t of a run that ends there: before a stop in the horizon the output can
-- fall to nothing
abbrev pub least_ending : ℕ → Thermal → ℕ → (ℤ → Option ℤ) → Option ℤ
least_ending periods unit t cost =
    if nat_lt t periods then least_between (neg_ℤ unit.ru) unit.rd cost else least_between (pos 0) (greatest_output unit.points) cost

-- room for as many hours as there are periods, of a unit of this hull
pub record HasRoom (periods : ℕ) (hull : Steps) (runs : Runs) : Type 0 where
  pub living : ((periods + 2) * (hull.room + 2)) ≤ runs.living.function.room
  pub ending : ((periods + 2) * (hull.room + 2)) ≤ runs.ending.function.room

-- n hours from period `from` on of a run that goes on: their costs, and how large and how many-pieced the function is
pub record IsRunning (periods : ℕ) (table : Table) (unit : Thermal) (hull : Steps) (from n : ℕ) (runs : Runs) : Type 0 where
  pub room : HasRoom periods hull runs
  pub costs : IsCostsOf runs.living.alive runs.living.function (cost_through periods table unit from (suc n) n)
  pub size : runs.living.alive ≡ true → IsBounded runs.living.function (MAX_HOUR * n)
  pub near : runs.living.alive ≡ true → IsNear 2 runs.living.function
  pub pieces : run_count runs.living.function ≤ n * (hull.room + 2)
