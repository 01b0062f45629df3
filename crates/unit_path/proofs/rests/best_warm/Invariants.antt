-- The best start before the period, with the way on from a rest to it, is the least way.
use Rattle.unit_path.proofs.LeastStarts.{IsBestTo}
use Rattle.unit_path.proofs.rests.best_warm.Given as goal

abbrev pub invariant-loop-t : goal.invariant-loop-t
invariant-loop-t l = IsBestTo l.terms l.unit l.fix l.since l.from l.t l.best
