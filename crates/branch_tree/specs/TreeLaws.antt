-- The laws of covers, of what contracts see of a tree. Source: branch and bound on the commitment variables of the reference
-- model by Knueven, Ostrowski and Watson.
use Rattle.std.specs.Prelude.{◌≡◌, true, false, List, ℤ}
use Rattle.uc_model.specs.Prelude.{IsLawfulInstance, Schedule}
use Rattle.dual_model.specs.Prelude.{root, agreeing_leaves, map_leaves, EachLeaf, Bound, Ray, Empty, IsBoundedBy, IsExcluded, Holds, AllExcluded, AreTablesLawful, IsLowerBound, IsInfeasible, IsClaimTrue}
use Rattle.dual_model.specs.Tree as branch
use Rattle.dual_model.specs.Cover as cover
pub use Rattle.dual_model.specs.declared.table.Table.{Table}
use Rattle.branch_tree.specs.TreeView.{Instance, Node, tree_of}
use Rattle.branch_tree.specs.StoredTree.{tree_bound}
pub use Rattle.branch_tree.specs.declared.tree.Leaf.{Leaf}
use Rattle.branch_tree.specs.declared.tree.Leaf.TheVariants as leaf
use Rattle.branch_tree.specs.declared.tree.Tree.{Tree}

-- what a leaf claims, by values of its kind, with its table under its own number; an open leaf counts as a bound
abbrev pub own_claim : Leaf → cover.Leaf
own_claim (leaf.Live table value exact) = Bound exact table
own_claim (leaf.Bound table value exact) = Bound exact table
own_claim (leaf.Ray table) = Ray false table
own_claim (leaf.Empty g) = Empty false g
own_claim (leaf.ExactRay table) = Ray true table
own_claim (leaf.ExactEmpty g) = Empty true g

abbrev pub claims_of : Tree → branch.Tree cover.Leaf
claims_of tree = map_leaves own_claim (tree_of tree)

-- the leaf is excluded, or its table bounds the cost of its schedules by what it stores, each by values of its kind
abbrev pub StoredHolds : Instance → List Table → Node → Leaf → Type 0
StoredHolds instance tables node (leaf.Live table value exact) = IsBoundedBy exact instance tables node table value
StoredHolds instance tables node (leaf.Bound table value exact) = IsBoundedBy exact instance tables node table value
StoredHolds instance tables node (leaf.Ray table) = IsExcluded instance tables node (Ray false table)
StoredHolds instance tables node (leaf.Empty g) = IsExcluded instance tables node (Empty false g)
StoredHolds instance tables node (leaf.ExactRay table) = IsExcluded instance tables node (Ray true table)
StoredHolds instance tables node (leaf.ExactEmpty g) = IsExcluded instance tables node (Empty true g)

-- every schedule agrees with exactly one leaf
abbrev pub TreesPart : Type 0
TreesPart = (tree : Tree) (x : Schedule) → agreeing_leaves x root (tree_of tree) ≡ 1

-- a tree that holds for b bounds the cost of every schedule by b
abbrev pub TreesBound : Type 0
TreesBound =
    (instance : Instance) (tables : List Table) (tree : Tree) (b : ℤ) → IsLawfulInstance instance
    → AreTablesLawful instance tables (claims_of tree) → Holds instance tables (claims_of tree) b → IsLowerBound instance b

-- a tree whose leaves are all excluded leaves no schedule
abbrev pub TreesExclude : Type 0
TreesExclude =
    (instance : Instance) (tables : List Table) (tree : Tree) → IsLawfulInstance instance
    → AreTablesLawful instance tables (claims_of tree) → AllExcluded instance tables (claims_of tree) → IsInfeasible instance

-- where what the leaves store holds, the tree's bound is true: no schedule costs less, and with none there is no schedule
abbrev pub StoredBoundsHold : Type 0
StoredBoundsHold =
    (instance : Instance) (tables : List Table) (tree : Tree) → IsLawfulInstance instance
    → AreTablesLawful instance tables (claims_of tree) → EachLeaf (StoredHolds instance tables) root (tree_of tree)
    → IsClaimTrue instance (tree_bound tree)
