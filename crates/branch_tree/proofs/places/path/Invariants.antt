-- Each turn goes to a parent, whose number is less.
use Rattle.std.proofs.Common.{◌<◌, length}
use Rattle.branch_tree.specs.Places.{tree_from}
use Rattle.branch_tree.proofs.Paths.{IsWayUp}
use Rattle.branch_tree.proofs.places.path.Given as goal

abbrev pub invariant-loop-reached : goal.invariant-loop-reached
invariant-loop-reached l = (l.reached < length l.places) × IsWayUp (tree_from l.places 0) l.node l.reached l.path.items

abbrev pub decreases-loop-reached : goal.decreases-loop-reached
decreases-loop-reached l = l.reached
