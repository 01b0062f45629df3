-- The run has the hours before the one in period t, and the best stop up to that period is known.
use Rattle.std.proofs.Common.{suc, ◌-◌, true}
use Rattle.unit_runs.specs.RunsToGo.{run_from}
use Rattle.unit_exact.specs.inside.Running.{IsRunning}
use Rattle.unit_exact.specs.inside.Switches.{IsBestTo}
use Rattle.unit_exact.proofs.stops.later_stop.Given as goal

abbrev pub invariant-loop-t : goal.invariant-loop-t
invariant-loop-t l = record {
  running : IsRunning l.problem.periods l.problem.table.now l.problem.unit.now l.problem.hull.now (run_from l.since) (l.t - run_from l.since) l.runs;
  best : IsBestTo l.problem.periods l.problem.table.now l.problem.unit.now l.problem.fix.now l.since true l.since (suc l.t) l.best;
}
