-- Of the stretch's units so far only those that are the same have kept their marks.
use Rattle.decommitment.specs.inside.Stretches.{HaveKept}
use Rattle.decommitment.proofs.stretch.keep_within.Given as goal

abbrev pub invariant-loop-g : goal.invariant-loop-g
invariant-loop-g l = HaveKept l.renewables l.first l.second l.fn.stretch.from l.g l.initial.marks l.marks
