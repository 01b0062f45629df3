-- No decision so far is on the cell.
use Rattle.std.proofs.Common.{◌≡◌, ◌<◌, length}
use Rattle.branch_tree.specs.Places.{tree_from}
use Rattle.branch_tree.specs.inside.Paths.{is_undecided_at}
use Rattle.branch_tree.proofs.cells.is_undecided.Given as goal

abbrev pub invariant-loop-reached : goal.invariant-loop-reached
invariant-loop-reached l = record {
  within : l.reached < length l.places;
  same : is_undecided_at (tree_from l.places 0) l.node l.g l.t ≡ is_undecided_at (tree_from l.places 0) l.reached l.g l.t;
}

abbrev pub decreases-loop-reached : goal.decreases-loop-reached
decreases-loop-reached l = l.reached
