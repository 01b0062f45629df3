-- What was found so far is accepted.
use Rattle.schedule_check.specs.Accepted.{IsAcceptedIfFound}
use Rattle.schedule_repair.proofs.descent.repair.Given as goal

abbrev pub invariant-loop-threshold : goal.invariant-loop-threshold
invariant-loop-threshold l = IsAcceptedIfFound l.instance l.best
