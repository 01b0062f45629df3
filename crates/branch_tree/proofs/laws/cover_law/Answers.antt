-- The laws over definitions, at the tree that is stored.
use Rattle.dual_model.specs.Prelude.{root}
use Rattle.dual_model.proofs.Covers.{agreeing_below, covers_bound, covers_exclude}
use Rattle.branch_tree.specs.TreeView.{tree_of}
use Rattle.branch_tree.specs.TreeLaws.{claims_of}
use Rattle.branch_tree.proofs.Bounds.{stored_bounds_hold}
use Rattle.branch_tree.proofs.laws.cover_law.Goals as goal

pub returns : goal.returns
returns c = record {
  part = λ tree x. agreeing_below x root (tree_of tree);
  bound = λ instance tables tree b. covers_bound instance tables (claims_of tree) b;
  exclude = λ instance tables tree. covers_exclude instance tables (claims_of tree);
  stored = stored_bounds_hold;
}
