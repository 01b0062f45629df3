-- How many nodes a branch tree has. Source: a binary tree in which each path decides each commitment variable once at most, as in
-- Graham, Knuth and Patashnik, Concrete Mathematics, chapter 2.
use Rattle.std.specs.Prelude.{◌<◌}
pub use Rattle.uc_model.specs.declared.instance.Instance.{Instance}
use Rattle.dual_model.specs.Prelude.{IsCover}
use Rattle.branch_tree.specs.Prelude.{NumberedTree, unnumbered, node_count}
use Rattle.decided_nodes.specs.Pivoting.{node_limit}

abbrev pub TreesAreSmall : Type 0
TreesAreSmall = (instance : Instance) (tree : NumberedTree) → IsCover instance (unnumbered tree) → node_count tree < node_limit instance
