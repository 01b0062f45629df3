-- Of a run that ends before period t the last n hours are left; what the shorter ones cost is written.
use Rattle.std.proofs.Common.{◌≡◌, ℕ, ◌-◌, ◌<◌, ◌≤◌}
use Rattle.unit_runs.specs.RunsToGo.{run_until}
use Rattle.state_walk.specs.inside.ExactTable.{cost_at}
use Rattle.state_walk.specs.inside.Rests.{HasRoom, IsRest}
use Rattle.state_walk.proofs.endings.Endings.fill.Given as goal

abbrev pub invariant-loop-n : goal.invariant-loop-n
invariant-loop-n l = record {
  rest : IsRest l.problem.periods l.problem.table.now l.problem.unit.now l.problem.hull.now l.n (l.t - l.n) l.self.rest;
  cut : HasRoom l.problem.periods l.problem.hull.now l.self.cut;
  runs : (s : ℕ) → l.t - l.n < s → s ≤ l.t → cost_at l.costs s ≡ run_until l.problem.periods l.problem.table.now l.problem.unit.now s l.t;
}
