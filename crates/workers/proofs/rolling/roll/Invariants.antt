-- What is kept grows until it is of all periods.
use Rattle.std.proofs.Common.{◌-◌}
use Rattle.workers.specs.inside.Rolls.{IsKeptSoFar}
use Rattle.workers.proofs.rolling.roll.Given as goal

abbrev pub invariant-loop-kept : goal.invariant-loop-kept
invariant-loop-kept g l = IsKeptSoFar l.plan l.kept

abbrev pub decreases-loop-kept : goal.decreases-loop-kept
decreases-loop-kept g l = l.instance.periods - l.kept.done
