-- What a node stores by its own entries. Source: this project's own form.
use Rattle.std.specs.Prelude.{◌≡◌, ◌≢◌, ℕ, ◌<◌, ◌≤◌, false, true, not, IsTrue, List, [], ◌∷◌, fold, length}
use Rattle.dual_model.specs.Prelude.{root, child, is_decided}
pub use Rattle.dual_model.specs.declared.node.Node.{Node}
use Rattle.branch_tree.specs.Prelude.{table_at, NumberedTree, EndAt, SplitAt, TreeView}
use Rattle.branch_tree.specs.declared.tree.Leaf.TheVariants as leaf
use Rattle.search_machine.specs.Machine.{Entry, Table, entries_of}
use Rattle.search_machine.specs.declared.stored.Stored.{Stored}
use Rattle.branch_tree.specs.declared.tree.Leaf.{Leaf}
use Rattle.search_machine.specs.Moves.{kept_after, HasFreeCell}

-- a cell of a tree of this size is undecided at the node
pub record HasFreeCellAt (units periods : ℕ) (node : Node) : Type 0 where
  pub g : ℕ
  pub t : ℕ
  pub unit : g < units
  pub period : t < periods
  pub undecided : IsTrue (not (is_decided node g t))

-- what the move Again leaves after an entry of the log
abbrev pub stored_by : List Table → Stored → Entry → Stored
stored_by tables stored entry = kept_after stored entry.table (table_at tables entry.table).k entry.exact entry.outcome

-- after one entry and the next
abbrev pub stored_after : List Table → Stored → List Entry → Stored
stored_after tables stored entries = fold (stored_by tables) stored entries

-- the first entry is at the table that is stored
abbrev pub StartsAt : List Table → Stored → List Entry → Type 0
StartsAt tables stored [] = Unit {0}
StartsAt tables stored (entry ∷ entries) = table_at tables entry.table ≡ table_at tables stored.table

-- a leaf that isn't excluded holds what is stored
abbrev pub HoldsStored : Stored → Leaf → Type 0
HoldsStored stored (leaf.Live table value exact) = (table ≡ stored.table) × (value ≡ stored.value) × (exact ≡ stored.exact)
HoldsStored stored (leaf.Bound table value exact) = (table ≡ stored.table) × (value ≡ stored.value) × (exact ≡ stored.exact)
HoldsStored stored (leaf.Ray table) = Unit {0}
HoldsStored stored (leaf.Empty g) = Unit {0}
HoldsStored stored (leaf.ExactRay table) = Unit {0}
HoldsStored stored (leaf.ExactEmpty g) = Unit {0}

-- a node inherits what its parent stores: at each node below `here`, but the root, at which a cell is undecided the first
-- entry is at the inherited table, and each leaf holds what its entries leave of it
abbrev pub OwnsBelow : ℕ → ℕ → List Table → List Entry → Node → Stored → NumberedTree → Type 0
OwnsBelow units periods tables log here inherited (EndAt number leaf) =
    (number ≢ 0 → HasFreeCellAt units periods here → StartsAt tables inherited (entries_of log number))
    × HoldsStored (stored_after tables inherited (entries_of log number)) leaf
OwnsBelow units periods tables log here inherited (SplitAt number g t off on) =
    (number ≢ 0 → HasFreeCellAt units periods here → StartsAt tables inherited (entries_of log number))
    × OwnsBelow units periods tables log (child here g t false) (stored_after tables inherited (entries_of log number)) off
    × OwnsBelow units periods tables log (child here g t true) (stored_after tables inherited (entries_of log number)) on

abbrev pub Owns : TreeView → List Table → List Entry → Stored → Type 0
Owns tree tables log first = OwnsBelow tree.units tree.periods tables log root first tree.nodes

-- with an undecided cell a node has at most a hundred entries
abbrev pub HasFewEntries : TreeView → List Entry → Type 0
HasFewEntries tree log = (number : ℕ) → HasFreeCell tree number → length (entries_of log number) ≤ 100
