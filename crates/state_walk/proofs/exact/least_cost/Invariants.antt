-- The table is that of the period before the ones that are behind.
use Rattle.std.proofs.Common.{◌-◌}
use Rattle.state_walk.specs.inside.ExactTable.{IsExactTable}
use Rattle.state_walk.specs.inside.Rests.{HaveRoom}
use Rattle.state_walk.proofs.exact.least_cost.Given as goal

abbrev pub invariant-loop-back : goal.invariant-loop-back
invariant-loop-back l = record {
  room : HaveRoom l.problem.periods l.problem.hull.now l.endings;
  table : IsExactTable l.problem.periods l.problem.table.now l.problem.unit.now l.problem.fix.now l.back (l.problem.periods - l.back) l.values;
}
