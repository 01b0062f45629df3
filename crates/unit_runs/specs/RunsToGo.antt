-- The least value by runs of going on from a state of one thermal unit to the end of the horizon: Bellman's recursion, in which a
-- run is paid for where it ends. Source: the graph of A. Frangioni and C. Gentile, "Solving Nonlinear Single-Unit Commitment
-- Problems with Ramping Constraints" (Operations Research 54, 2006).
--
-- Periods count from 0 here.
use Rattle.std.specs.Prelude.{ℕ, zero, suc, ◌-◌, Bool, true, false, not, ℤ, pos, ◌*ℤ◌, ◌≤ℤ◌, Option, Some}
use Rattle.uc_model.specs.Prelude.{sigma}
use Rattle.dual_model.specs.Prelude.{MoveCosts, least_cost, way_cost, allowed, may_move, stop_since, IsPattern}
pub use Rattle.dual_model.specs.declared.node.Fix.{Fix}
use Rattle.unit_runs.specs.Runs.{Table, Thermal}
use Rattle.unit_runs.specs.Patterns.{Commitment, IsValueByRuns, HasTrajectories}
use Rattle.unit_runs.specs.CostThrough.{run_cost}

-- the period in which the run began of a unit that is on since then
abbrev pub run_from : ℕ → ℕ
run_from zero = 0
run_from (suc s) = s

-- what that run costs where it ends before period t
abbrev pub run_until : ℕ → Table → Thermal → ℕ → ℕ → Option ℤ
run_until periods table unit since t = run_cost periods table unit (run_from since) (t - run_from since)

-- what a move costs: the run that a stop ends, and a start
abbrev pub run_and_start : ℕ → Table → Thermal → MoveCosts
run_and_start periods table unit t true since true = Some (pos 0)
run_and_start periods table unit t true since false = run_until periods table unit since t
run_and_start periods table unit t false since true = Some (table.k *ℤ sigma unit (stop_since since) t)
run_and_start periods table unit t false since false = Some (pos 0)

-- and that of a switch in period t of a unit that was on or off since then; None where it may not be
abbrev pub switch_cost : ℕ → Table → Thermal → Fix → ℕ → Bool → ℕ → Option ℤ
switch_cost periods table unit fix t was since = allowed unit fix (run_and_start periods table unit) t was since (not was)

-- it may go on in period t as it was, whenever that began
abbrev pub may_stay : Thermal → Fix → ℕ → Bool → Bool
may_stay unit fix t was = may_move unit fix t was 0 was

-- at the end of the horizon, t, the run that lasts is paid for
abbrev pub last_cost : ℕ → Table → Thermal → ℕ → Bool → ℕ → Option ℤ
last_cost periods table unit t true since = run_until periods table unit since t
last_cost periods table unit t false since = Some (pos 0)

-- the least cost from a state before period t on, with n periods left
abbrev pub runs_to_go : ℕ → Table → Thermal → Fix → ℕ → ℕ → Bool → ℕ → Option ℤ
runs_to_go periods table unit fix n t was since =
    least_cost (allowed unit fix (run_and_start periods table unit)) (last_cost periods table unit) n t was since

-- the cost of the way that a commitment takes from there
abbrev pub runs_way : ℕ → Table → Thermal → Fix → Commitment → ℕ → ℕ → Bool → ℕ → Option ℤ
runs_way periods table unit fix on n t was since =
    way_cost (allowed unit fix (run_and_start periods table unit)) (last_cost periods table unit) on n t was since

-- both from the initial state on
abbrev pub whole_way : ℕ → Table → Thermal → Fix → Commitment → Option ℤ
whole_way periods table unit fix on = runs_way periods table unit fix on periods 0 unit.on0 0

abbrev pub least_runs : ℕ → Table → Thermal → Fix → Option ℤ
least_runs periods table unit fix = runs_to_go periods table unit fix periods 0 unit.on0 0

-- v is the least value by runs of a pattern that is as the fix decides
pub record IsLeastByFix (periods : ℕ) (table : Table) (unit : Thermal) (fix : Fix) (v : ℤ) : Type 0 where
  pub on : Commitment
  pub pattern : IsPattern periods unit fix on
  pub value : IsValueByRuns periods table unit on v
  pub least : (other : Commitment) (w : ℤ) → IsPattern periods unit fix other → IsValueByRuns periods table unit other w → v ≤ℤ w

-- no such pattern has a trajectory for each of its runs
abbrev pub HasNoRunsByFix : ℕ → Thermal → Fix → Type 0
HasNoRunsByFix periods unit fix = (on : Commitment) → IsPattern periods unit fix on → ¬ HasTrajectories periods unit on
