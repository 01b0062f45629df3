-- The best start before the period, with the ways that rest until it, is the least way.
use Rattle.std.proofs.Common.{false}
use Rattle.unit_exact.specs.inside.Switches.{IsBestTo}
use Rattle.unit_exact.proofs.starts.next_start.Given as goal

abbrev pub invariant-loop-t : goal.invariant-loop-t
invariant-loop-t l = IsBestTo l.problem.periods l.problem.table.now l.problem.unit.now l.problem.fix.now l.since false l.since l.t l.best
