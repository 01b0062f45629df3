-- The least values of runs that have a trajectory, and what a commitment costs by these.
-- Cite from a crate above by `use Rattle.unit_runs.proofs.LeastValues.{value_there}`.
use Rattle.std.proofs.Common.{◌≡◌, ℕ, ◌<◌, refl, ap, arith, ℤ, pos, ◌+ℤ◌, unwrap_or, Option, Some, None}
use Rattle.uc_model.proofs.Common.{linear, le_antisymm}
use Rattle.unit_runs.specs.Runs.{Table, Thermal, HasTrajectory, IsLeastRunValue, IsRunValueOf}
use Rattle.unit_runs.specs.Patterns.{Commitment, run_hours, EachRun, sum_over_runs, start_costs, IsValueByRuns, HasTrajectories}
use Rattle.unit_runs.specs.CostThrough.{run_cost}
use Rattle.unit_runs.proofs.RunCosts.{run_costs_are_least}

module _ (periods : ℕ) (table : Table) (unit : Thermal) where
  -- what the recursion gives, and 0 where it gives nothing
  abbrev pub least_value : ℕ → ℕ → ℤ
  least_value from hours = unwrap_or (run_cost periods table unit from hours) (pos 0)

  answered : (from hours : ℕ) (cost : Option ℤ) → HasTrajectory periods unit from hours → IsRunValueOf periods table unit from hours cost
      → IsLeastRunValue periods table unit from hours (unwrap_or cost (pos 0))
  answered from hours None there h = absurd (h there.0 there.1)
  answered from hours (Some v) there h = h

  pub least_there : (on : Commitment) → HasTrajectories periods unit on
      → EachRun periods unit on (λ from hours. IsLeastRunValue periods table unit from hours (least_value from hours))
  least_there on runs from l b =
      answered from _ (run_cost periods table unit from (run_hours periods on from)) (runs from l b) (run_costs_are_least periods table unit from _ l)

  abbrev pub value_by_runs : Commitment → ℤ
  value_by_runs on = sum_over_runs periods unit on least_value +ℤ start_costs periods table unit on

  pub value_there : (on : Commitment) → HasTrajectories periods unit on → IsValueByRuns periods table unit on (value_by_runs on)
  value_there on runs = record { value = least_value; runs = least_there on runs; total = refl }

  -- the recursion gives each least value, and what it gives is one
  same_cost : (from hours : ℕ) (v : ℤ) (cost : Option ℤ) → IsLeastRunValue periods table unit from hours v
      → IsRunValueOf periods table unit from hours cost → cost ≡ Some v
  same_cost from hours v None least is = absurd (is least.x least.is_trajectory)
  same_cost from hours v (Some w) least is =
      let low = least.least is.x is.is_trajectory in
      let high = is.least least.x least.is_trajectory in
      let first = least.reached in
      let second = is.reached in
      ap Some (le_antisymm w v (omega (arith, linear)) (omega (arith, linear)))

  pub cost-is : (from hours : ℕ) (v : ℤ) → from < periods → IsLeastRunValue periods table unit from hours v
      → run_cost periods table unit from hours ≡ Some v
  cost-is from hours v l least = same_cost from hours v (run_cost periods table unit from hours) least (run_costs_are_least periods table unit from hours l)

  found : (from hours : ℕ) (v : ℤ) (cost : Option ℤ) → cost ≡ Some v → IsRunValueOf periods table unit from hours cost
      → HasTrajectory periods unit from hours
  found from hours v None e is = cc
  found from hours v (Some w) e is = (is.x, is.is_trajectory)

  pub trajectory-from : (from hours : ℕ) (v : ℤ) → from < periods → run_cost periods table unit from hours ≡ Some v
      → HasTrajectory periods unit from hours
  trajectory-from from hours v l e = found from hours v (run_cost periods table unit from hours) e (run_costs_are_least periods table unit from hours l)
