-- What contracts see of a tree, what every tree keeps, and the conditions of a change. This project's own form.
use Rattle.std.specs.Prelude.{◌≡◌, ℕ, ◌^◌, ◌<◌, ◌≤◌, Bool, false, ℤ, pos, Some, not, IsTrue}
use Rattle.uc_model.specs.Prelude.{thermal_count}
pub use Rattle.uc_model.specs.declared.instance.Instance.{Instance}
use Rattle.dual_model.specs.Prelude.{is_decided, IsCover}
use Rattle.dual_model.specs.Tree as branch
pub use Rattle.dual_model.specs.declared.node.Node.{Node}
use Rattle.branch_tree.specs.NumberedTree.{Leaf, NumberedTree, EndAt, IsNumbered, unnumbered, node_count, spot_at, node_at}
use Rattle.branch_tree.specs.declared.tree.Leaf.TheVariants as leaf
use Rattle.branch_tree.specs.declared.tree.Spot.TheVariants as spot

-- the units and periods that it splits on, for how many nodes it has room, and its nodes
pub record TreeView : Type 0 where
  pub units : ℕ
  pub periods : ℕ
  pub room : ℕ
  pub nodes : NumberedTree

-- the tree that is stored, without its numbers
abbrev pub tree_of : TreeView → branch.Tree Leaf
tree_of tree = unnumbered tree.nodes

-- an instance of the units and periods that the tree splits on
pub record IsSizeOf (tree : TreeView) (instance : Instance) : Type 0 where
  pub thermal : thermal_count instance ≡ tree.units
  pub periods : instance.periods ≡ tree.periods

-- what every tree keeps: it is a cover, its nodes are numbered from 0, and there is room for them
pub record IsWhole (tree : TreeView) : Type 0 where
  pub cover : (instance : Instance) → IsSizeOf tree instance → IsCover instance (tree_of tree)
  pub numbered : IsNumbered tree.nodes
  pub within : node_count tree.nodes ≤ tree.room
  pub countable : tree.room < 2 ^ 32

-- an open leaf has this number
pub record IsOpenAt (tree : NumberedTree) (number : ℕ) : Type 0 where
  pub table : ℕ
  pub value : ℤ
  pub exact : Bool
  pub live : spot_at tree number ≡ Some (spot.Leaf (leaf.Live table value exact))

-- the cell is inside the size of the tree, and the path to the node of this number hasn't decided it
pub record IsFreeAt (tree : TreeView) (number g t : ℕ) : Type 0 where
  pub unit : g < tree.units
  pub period : t < tree.periods
  pub node : Node
  pub is_node : node_at tree.nodes number ≡ Some node
  pub undecided : IsTrue (not (is_decided node g t))

-- a cell is undecided at the node of this number
pub record HasFreeCell (tree : TreeView) (number : ℕ) : Type 0 where
  pub g : ℕ
  pub t : ℕ
  pub free : IsFreeAt tree number g t

-- a tree of an open root, of table 0 and value 0, by V
abbrev pub open_root : ℕ → ℕ → ℕ → TreeView
open_root units periods room =
    record { units = units; periods = periods; room = room; nodes = EndAt 0 (leaf.Live 0 (pos 0) false) }
