-- Branch trees whose nodes have numbers, as a flat list of nodes gives them: what stands at a number, which node it is, and
-- how a leaf is replaced. This project's own form.
use Rattle.std.specs.Prelude.{◌≡◌, ℕ, ◌+◌, ◌<◌, ◌≤◌, ◌==◌, true, false, List, [], ◌∷◌, ◌++◌, Option, Some, None, if◌then◌else◌}
use Rattle.std.specs.Option.{option_or, option_map}
use Rattle.dual_model.specs.Prelude.{Ends, Splits, root, child}
use Rattle.dual_model.specs.Tree as branch
pub use Rattle.dual_model.specs.declared.node.Node.{Node}
pub use Rattle.branch_tree.specs.declared.tree.Leaf.{Leaf}
use Rattle.branch_tree.specs.declared.tree.Leaf.TheVariants as leaf
pub use Rattle.branch_tree.specs.declared.tree.Spot.{Spot}
use Rattle.branch_tree.specs.declared.tree.Spot.TheVariants as spot

-- a leaf, or a split on a unit and a period into the off-child and the on-child, each with its number first
pub data NumberedTree : Type 0 where
  EndAt : ℕ → Leaf → NumberedTree
  SplitAt : ℕ → ℕ → ℕ → NumberedTree → NumberedTree → NumberedTree

-- where there is no tree
abbrev pub no_tree : NumberedTree
no_tree = EndAt 0 (leaf.Empty 0)

-- the same tree without the numbers
abbrev pub unnumbered : NumberedTree → branch.Tree Leaf
unnumbered (EndAt number leaf) = Ends leaf
unnumbered (SplitAt number g t off on) = Splits g t (unnumbered off) (unnumbered on)

-- the number of its root
abbrev pub number_of : NumberedTree → ℕ
number_of (EndAt number leaf) = number
number_of (SplitAt number g t off on) = number

-- what its root is by itself
abbrev pub spot_of : NumberedTree → Spot
spot_of (EndAt number leaf) = spot.Leaf leaf
spot_of (SplitAt number g t off on) = spot.Inner g t (number_of off) (number_of on)

-- the children of what stands at a node, the on-child first
abbrev pub children_of : Spot → List ℕ
children_of (spot.Inner g t off on) = on ∷ off ∷ []
children_of (spot.Leaf leaf) = []

-- the numbers of its nodes in preorder
abbrev pub numbers : NumberedTree → List ℕ
numbers (EndAt number leaf) = number ∷ []
numbers (SplitAt number g t off on) = number ∷ (numbers off ++ numbers on)

-- the sum of a weight over the numbers of its nodes
abbrev pub total : (ℕ → ℕ) → NumberedTree → ℕ
total weight (EndAt number leaf) = weight number
total weight (SplitAt number g t off on) = weight number + (total weight off + total weight on)

-- how many nodes it has
abbrev pub node_count : NumberedTree → ℕ
node_count tree = total (λ number. 1) tree

-- how many of its nodes have the number
abbrev pub times : ℕ → NumberedTree → ℕ
times wanted tree = total (λ number. if number == wanted then 1 else 0) tree

-- a part of a tree that hangs from a node, with the decisions on the path to this node
pub record Subtree : Type 0 where
  pub node : Node
  pub tree : NumberedTree

-- the part that hangs from the node of that number, of a tree below the node `here`
abbrev pub subtree_below : Node → NumberedTree → ℕ → Option Subtree
subtree_below here (EndAt number leaf) wanted =
    if number == wanted then Some (record { node = here; tree = EndAt number leaf }) else None
subtree_below here (SplitAt number g t off on) wanted =
    if number == wanted then Some (record { node = here; tree = SplitAt number g t off on })
    else option_or (subtree_below (child here g t false) off wanted) (subtree_below (child here g t true) on wanted)

abbrev pub subtree_at : NumberedTree → ℕ → Option Subtree
subtree_at tree wanted = subtree_below root tree wanted

-- what stands at the number, and the node that has it
abbrev pub spot_at : NumberedTree → ℕ → Option Spot
spot_at tree wanted = option_map (λ subtree. spot_of subtree.tree) (subtree_at tree wanted)

abbrev pub node_at : NumberedTree → ℕ → Option Node
node_at tree wanted = option_map (λ subtree. subtree.node) (subtree_at tree wanted)

-- the tree with its leaf of that number replaced by what is grown from it
abbrev pub replaced : ℕ → (Leaf → NumberedTree) → NumberedTree → NumberedTree
replaced wanted grow (EndAt number leaf) = if number == wanted then grow leaf else EndAt number leaf
replaced wanted grow (SplitAt number g t off on) =
    SplitAt number g t (replaced wanted grow off) (replaced wanted grow on)

-- a split in place of a leaf: the children of these numbers store what it stored
abbrev pub split_leaf : ℕ → ℕ → ℕ → ℕ → ℕ → Leaf → NumberedTree
split_leaf number g t off on leaf = SplitAt number g t (EndAt off leaf) (EndAt on leaf)

-- the root has the number 0, and each number below the count of the nodes is that of one node, and no other is
pub record IsNumbered (tree : NumberedTree) : Type 0 where
  pub root : number_of tree ≡ 0
  pub once : (number : ℕ) → number < node_count tree → times number tree ≡ 1
  pub none : (number : ℕ) → node_count tree ≤ number → times number tree ≡ 0
