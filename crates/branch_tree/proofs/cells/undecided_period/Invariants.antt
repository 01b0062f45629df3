-- The cells so far are decided.
use Rattle.std.proofs.Common.{◌≡◌, ℕ, ◌<◌, false}
use Rattle.branch_tree.specs.Places.{tree_from}
use Rattle.branch_tree.specs.inside.Paths.{is_undecided_at}
use Rattle.branch_tree.proofs.cells.undecided_period.Given as goal

abbrev pub invariant-loop-t : goal.invariant-loop-t
invariant-loop-t l = (k : ℕ) → k < l.t → is_undecided_at (tree_from l.places 0) l.node l.g k ≡ false
