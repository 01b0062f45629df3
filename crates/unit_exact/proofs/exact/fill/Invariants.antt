-- The table is right from the last of the periods that are behind.
use Rattle.std.proofs.Common.{◌-◌}
use Rattle.unit_exact.specs.inside.Running.{HasRoom}
use Rattle.unit_exact.specs.inside.Switches.{IsTableFrom}
use Rattle.unit_exact.proofs.exact.fill.Given as goal

abbrev pub invariant-loop-back : goal.invariant-loop-back
invariant-loop-back l = record {
  room : HasRoom l.problem.periods l.problem.hull.now l.runs;
  table : IsTableFrom l.problem.periods l.problem.table.now l.problem.unit.now l.problem.fix.now (l.problem.periods - l.back) l.entries;
}
