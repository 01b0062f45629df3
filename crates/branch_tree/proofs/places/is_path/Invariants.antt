-- The decisions are those of the node exactly where those left are those of the node that is reached.
use Rattle.std.proofs.Common.{◌<◌, ◌≤◌, length}
use Rattle.branch_tree.specs.Places.{tree_from}
use Rattle.branch_tree.proofs.Paths.{AreAlike}
use Rattle.branch_tree.proofs.places.is_path.Given as goal

abbrev pub invariant-loop-reached : goal.invariant-loop-reached
invariant-loop-reached l = record {
  within : l.reached < length l.places;
  some : l.left ≤ length l.fixings;
  alike : AreAlike (tree_from l.places 0) l.node l.reached l.fixings l.left;
}

abbrev pub decreases-loop-reached : goal.decreases-loop-reached
decreases-loop-reached l = l.reached
