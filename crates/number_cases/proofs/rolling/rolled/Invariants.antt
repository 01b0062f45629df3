-- What is kept is a schedule of the periods that are done.
use Rattle.std.proofs.Common.{◌-◌, ◌≤◌}
use Rattle.roll.specs.Kept.{IsKept}
use Rattle.number_cases.proofs.rolling.rolled.Given as goal

abbrev pub invariant-loop-done : goal.invariant-loop-done
invariant-loop-done l = record { within : l.done ≤ l.instance.periods; kept : IsKept l.instance l.done l.kept }

abbrev pub decreases-loop-done : goal.decreases-loop-done
decreases-loop-done l = l.instance.periods - l.done
