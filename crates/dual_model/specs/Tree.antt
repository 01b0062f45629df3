-- Branch trees, whatever stands at their leaves: which node a leaf stands at, which cells its path has decided, and
-- which leaves a schedule agrees with. Source: branch and bound on the commitment variables of the reference model by
-- Knueven, Ostrowski and Watson.
--
-- Units and periods count from 0 here.
use Rattle.std.specs.Prelude.{ℕ, ◌+◌, ◌<◌, Bool, true, false, not, ◌&&◌, ◌||◌, ◌==◌, [], ◌∷◌, ◌++◌, IsTrue, if◌then◌else◌}
use Rattle.std.specs.List.{list_any}
use Rattle.uc_model.specs.Prelude.{Schedule, thermal_count}
use Rattle.dual_model.specs.Fixings.{Instance, Node, HasNoPattern, IsCell, agrees}

-- a leaf, or a split on a unit and a period into the off-child and the on-child
pub data Tree (A : Type 0) : Type 0 where
  Ends : A → Tree A
  Splits : ℕ → ℕ → Tree A → Tree A → Tree A

-- the node at which nothing is decided
abbrev pub root : Node
root = record { fixings = [] }

-- each thermal unit has an allowed pattern
abbrev pub HasEachPattern : Instance → Type 0
HasEachPattern instance = (g : ℕ) → g < thermal_count instance → ¬ HasNoPattern instance root g

-- the child of a node at which the cell is decided besides
abbrev pub child : Node → ℕ → ℕ → Bool → Node
child node g t on = record { fixings = node.fixings ++ (record { g = g; t = t; on = on }) ∷ [] }

-- the path has decided the cell
abbrev pub is_decided : Node → ℕ → ℕ → Bool
is_decided node g t = list_any (λ fixing. (fixing.g == g) && (fixing.t == t)) node.fixings

-- a tree below the node: each split is on a cell of the instance that its path hasn't decided
abbrev pub IsCoverBelow : {A : Type 0} → Instance → Node → Tree A → Type 0
IsCoverBelow instance node (Ends leaf) = Unit {0}
IsCoverBelow instance node (Splits g t off on) =
    IsCell instance g t × IsTrue (not (is_decided node g t))
    × IsCoverBelow instance (child node g t false) off × IsCoverBelow instance (child node g t true) on

abbrev pub IsCover : {A : Type 0} → Instance → Tree A → Type 0
IsCover instance tree = IsCoverBelow instance root tree

-- how many leaves below the node, at which it stands, the schedule agrees with
abbrev pub agreeing_leaves : {A : Type 0} → Schedule → Node → Tree A → ℕ
agreeing_leaves x node (Ends leaf) = if agrees node x then 1 else 0
agreeing_leaves x node (Splits g t off on) = agreeing_leaves x (child node g t false) off + agreeing_leaves x (child node g t true) on

-- P holds of each leaf below the node and of the node at which it stands
abbrev pub EachLeaf : {A : Type 0} → (Node → A → Type 0) → Node → Tree A → Type 0
EachLeaf P node (Ends leaf) = P node leaf
EachLeaf P node (Splits g t off on) = EachLeaf P (child node g t false) off × EachLeaf P (child node g t true) on

-- some leaf passes the test
abbrev pub any_leaf : {A : Type 0} → (A → Bool) → Tree A → Bool
any_leaf test (Ends leaf) = test leaf
any_leaf test (Splits g t off on) = any_leaf test off || any_leaf test on

-- the tree with each leaf told in another way
abbrev pub map_leaves : {A B : Type 0} → (A → B) → Tree A → Tree B
map_leaves f (Ends leaf) = Ends (f leaf)
map_leaves f (Splits g t off on) = Splits g t (map_leaves f off) (map_leaves f on)
