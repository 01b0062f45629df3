-- The bounds that are stored at the leaves of a tree. This project's own form.
use Rattle.std.specs.Prelude.{◌≡◌, ℕ, ℤ, ◌≤ℤ◌, Option, Some, None}
use Rattle.std.specs.Int.{int_min}
use Rattle.dual_model.specs.Prelude.{Ends, Splits}
use Rattle.dual_model.specs.Tree as branch
use Rattle.branch_tree.specs.NumberedTree.{Node, Spot, Leaf, node_at}
use Rattle.branch_tree.specs.TreeView.{TreeView, tree_of}
use Rattle.branch_tree.specs.declared.tree.Leaf.TheVariants as leaf
use Rattle.branch_tree.specs.declared.tree.Spot.TheVariants as spot

-- the node that has this number: numbers count from 0, which is the root
abbrev pub IsNodeAt : TreeView → ℕ → Node → Type 0
IsNodeAt tree number node = node_at tree.nodes number ≡ Some node

-- the bound that a leaf stores, where it isn't excluded
abbrev pub leaf_bound : Leaf → Option ℤ
leaf_bound (leaf.Live table value exact) = Some value
leaf_bound (leaf.Bound table value exact) = Some value
leaf_bound (leaf.Ray table) = None
leaf_bound (leaf.Empty g) = None
leaf_bound (leaf.ExactRay table) = None
leaf_bound (leaf.ExactEmpty g) = None

-- the same of what stands at a node; a split stores none
abbrev pub spot_bound : Spot → Option ℤ
spot_bound (spot.Inner g t off on) = None
spot_bound (spot.Leaf leaf) = leaf_bound leaf

-- the lesser of two bounds, where there is one
abbrev pub lesser_bound : Option ℤ → Option ℤ → Option ℤ
lesser_bound None b = b
lesser_bound (Some a) None = Some a
lesser_bound (Some a) (Some b) = Some (int_min a b)

-- a bound is no greater than another; none is the greatest
abbrev pub AtMost : Option ℤ → Option ℤ → Type 0
AtMost a None = Unit {0}
AtMost None (Some b) = ⊥
AtMost (Some a) (Some b) = a ≤ℤ b

-- the least stored bound over the leaves that aren't excluded, and none where each of them is
abbrev pub least_bound : branch.Tree Leaf → Option ℤ
least_bound (Ends leaf) = leaf_bound leaf
least_bound (Splits g t off on) = lesser_bound (least_bound off) (least_bound on)

abbrev pub tree_bound : TreeView → Option ℤ
tree_bound tree = least_bound (tree_of tree)
