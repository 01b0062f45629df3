-- Of the units so far only those that are the same have kept their marks.
use Rattle.std.proofs.Common.{◌-◌, ◌≤◌, length}
use Rattle.decommitment.specs.inside.Stretches.{HaveKept}
use Rattle.decommitment.proofs.stretch.keep_same.Given as goal

abbrev pub invariant-loop-done : goal.invariant-loop-done
invariant-loop-done l = record {
  within : l.done ≤ length l.marks;
  kept : HaveKept l.renewables l.first l.second 0 l.done l.initial.marks l.marks;
}

abbrev pub decreases-loop-done : goal.decreases-loop-done
decreases-loop-done l = length l.marks - l.done
