-- What the leaves of a tree claim: a bound at a table, or that no schedule is left there, and what makes the claims
-- hold. Source: branch and bound on the commitment variables of the reference model by Knueven, Ostrowski and Watson.
--
-- The values are of one kind or the other, exact or not. Units and tables count from 0 here.
use Rattle.std.specs.Prelude.{◌≡◌, ℕ, ◌<◌, ◌⊎◌, Bool, true, false, List, ℤ, pos, ◌≤ℤ◌, ◌<ℤ◌, slice_get, Some}
use Rattle.uc_model.specs.Prelude.{IsFloor, thermal_count}
use Rattle.dual_model.specs.Fixings.{Instance, Node}
use Rattle.dual_model.specs.NodeValue.{Table}
use Rattle.dual_model.specs.ValueKind.{IsValueOf, IsBlocked, HasBlockedUnit}
use Rattle.dual_model.specs.Tree.{Tree, root, EachLeaf, any_leaf}

-- what a leaf claims, each by values of a kind: a bound at the table of that number, that the table of that number is a
-- ray that excludes every schedule of the leaf, or that the unit of that number is blocked there
pub data Leaf : Type 0 where
  Bound : Bool → ℕ → Leaf
  Ray : Bool → ℕ → Leaf
  Empty : Bool → ℕ → Leaf

-- the node's value of the kind at the table is above 0
pub record HasPositiveValue (exact : Bool) (instance : Instance) (node : Node) (table : Table) : Type 0 where
  pub value : ℤ
  pub is_value : IsValueOf exact instance node table value
  pub positive : pos 0 <ℤ value

-- the bound of the table at the node, floor(V/K) or floor(VE/K), is the number
pub record IsTableBound (exact : Bool) (instance : Instance) (node : Node) (table : Table) (bound : ℤ) : Type 0 where
  pub value : ℤ
  pub is_value : IsValueOf exact instance node table value
  pub quotient : IsFloor value table.k bound

-- the bound of the table at the node is at least b
pub record HasBoundOf (exact : Bool) (instance : Instance) (node : Node) (table : Table) (b : ℤ) : Type 0 where
  pub bound : ℤ
  pub is_bound : IsTableBound exact instance node table bound
  pub enough : b ≤ℤ bound

-- b is at least the bound of the table at the node
pub record ReachesBoundOf (exact : Bool) (instance : Instance) (node : Node) (table : Table) (b : ℤ) : Type 0 where
  pub bound : ℤ
  pub is_bound : IsTableBound exact instance node table bound
  pub reached : bound ≤ℤ b

-- the table of that number is a ray that leaves no schedule at the node
pub record IsExcludedByRay (exact : Bool) (instance : Instance) (tables : List Table) (node : Node) (number : ℕ)
    : Type 0 where
  pub table : Table
  pub is_table : slice_get tables number ≡ Some table
  pub scale : table.k ≡ pos 0
  pub excludes : HasPositiveValue exact instance node table ⊎ HasBlockedUnit exact instance node

-- the table of that number bounds the cost of the node's schedules by b from below
pub record IsBoundedBy (exact : Bool) (instance : Instance) (tables : List Table) (node : Node) (number : ℕ) (b : ℤ)
    : Type 0 where
  pub table : Table
  pub is_table : slice_get tables number ≡ Some table
  pub scale : pos 0 <ℤ table.k
  pub bounds : HasBoundOf exact instance node table b ⊎ HasBlockedUnit exact instance node

-- the leaf at the node is excluded: no schedule of the instance is left there
abbrev pub IsExcluded : Instance → List Table → Node → Leaf → Type 0
IsExcluded instance tables node (Bound exact number) = ⊥
IsExcluded instance tables node (Ray exact number) = IsExcludedByRay exact instance tables node number
IsExcluded instance tables node (Empty exact g) = (g < thermal_count instance) × IsBlocked exact instance node g

-- the leaf at the node is excluded, or bounds the cost by b
abbrev pub LeafHolds : Instance → List Table → ℤ → Node → Leaf → Type 0
LeafHolds instance tables b node (Bound exact number) = IsBoundedBy exact instance tables node number b
LeafHolds instance tables b node (Ray exact number) = IsExcluded instance tables node (Ray exact number)
LeafHolds instance tables b node (Empty exact g) = IsExcluded instance tables node (Empty exact g)

-- Holds(tree, b): each leaf is excluded or bounds the cost by b
abbrev pub Holds : Instance → List Table → Tree Leaf → ℤ → Type 0
Holds instance tables tree b = EachLeaf (LeafHolds instance tables b) root tree

-- each leaf is excluded
abbrev pub AllExcluded : Instance → List Table → Tree Leaf → Type 0
AllExcluded instance tables tree = EachLeaf (IsExcluded instance tables) root tree

-- the leaf is a bound
abbrev pub is_bound : Leaf → Bool
is_bound (Bound exact number) = true
is_bound (Ray exact number) = false
is_bound (Empty exact g) = false

-- some leaf is one
abbrev pub has_bound : Tree Leaf → Bool
has_bound tree = any_leaf is_bound tree
