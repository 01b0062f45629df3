-- The entries are right but for that of the place that is reached.
use Rattle.std.proofs.Common.{◌≡◌}
use Rattle.std.specs.Vec.{vec_capacity}
use Rattle.branch_tree.specs.inside.Minima.{IsMendedBut}
use Rattle.branch_tree.proofs.minima.mend.Given as goal

abbrev pub invariant-loop-reached : goal.invariant-loop-reached
invariant-loop-reached l = record {
  mended : IsMendedBut l.values l.entries.items l.reached;
  capacity : vec_capacity l.entries ≡ vec_capacity l.fn.entries;
}

abbrev pub decreases-loop-reached : goal.decreases-loop-reached
decreases-loop-reached l = l.reached
