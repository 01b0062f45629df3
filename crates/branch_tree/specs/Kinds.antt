-- Trees of values V alone, of which no leaf stores or claims anything by VE. This project's own form.
use Rattle.std.specs.Prelude.{◌≡◌, false}
use Rattle.dual_model.specs.Prelude.{root, EachLeaf}
use Rattle.branch_tree.specs.NumberedTree.{Leaf}
use Rattle.branch_tree.specs.TreeView.{TreeView, tree_of}
use Rattle.branch_tree.specs.declared.tree.Leaf.TheVariants as leaf

-- what the leaf stores or claims is by V
abbrev pub IsPlainLeaf : Leaf → Type 0
IsPlainLeaf (leaf.Live table value exact) = exact ≡ false
IsPlainLeaf (leaf.Bound table value exact) = exact ≡ false
IsPlainLeaf (leaf.Ray table) = Unit {0}
IsPlainLeaf (leaf.Empty g) = Unit {0}
IsPlainLeaf (leaf.ExactRay table) = ⊥
IsPlainLeaf (leaf.ExactEmpty g) = ⊥

-- and so of each leaf
abbrev pub IsPlainTree : TreeView → Type 0
IsPlainTree tree = EachLeaf (λ node leaf. IsPlainLeaf leaf) root (tree_of tree)
