-- The cells of the units so far are decided.
use Rattle.std.proofs.Common.{ℕ, ◌<◌, IsTrue}
use Rattle.branch_tree.specs.Places.{tree_from}
use Rattle.branch_tree.specs.inside.Paths.{is_undecided_at}
use Rattle.branch_tree.proofs.cells.first_undecided.Given as goal

abbrev pub invariant-loop-g : goal.invariant-loop-g
invariant-loop-g l = (k t : ℕ) → k < l.g → t < l.periods → ¬ IsTrue (is_undecided_at (tree_from l.places 0) l.node k t)
