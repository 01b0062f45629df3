-- The state of the search machine: branch and bound by several workers on one tree, with a log of its evaluations. This
-- project's own form. Workers, nodes, tables and claims count from 0; a claim's number, its unit, from 1.
use Rattle.std.specs.Prelude.{◌≡◌, ℕ, ◌+◌, ◌-◌, ◌*◌, ◌<◌, ◌==◌, false, List, [], ◌∷◌, ℤ, pos, Option, Some, None, filter, length, replicate, slice_get, slice_index_or}
pub use Rattle.dual_model.specs.declared.table.Table.{Table}
use Rattle.branch_tree.specs.Prelude.{EndAt, spot_at, TreeView, IsOpenAt}
use Rattle.branch_tree.specs.declared.tree.Leaf.{Leaf}
use Rattle.branch_tree.specs.declared.tree.Leaf.TheVariants as leaf
use Rattle.branch_tree.specs.declared.tree.Spot.{Spot}
use Rattle.branch_tree.specs.declared.tree.Spot.TheVariants as spot
pub use Rattle.branch_tree.specs.declared.found.Entry.{Entry}
pub use Rattle.search_machine.specs.declared.desk.WorkerState.{WorkerState}
pub use Rattle.search_machine.specs.declared.holder.Holder.{Holder}
use Rattle.search_machine.specs.declared.stored.Stored.{Stored}

pub record Machine : Type 0 where
  -- how many claims there may be, and how far a bound may stay below a cost, in parts per million of the cost's size
  pub budget : ℕ
  pub gap : ℕ
  -- the tree, and the tables that its leaves and the log name
  pub tree : TreeView
  pub tables : List Table
  -- each claim so far: who holds which node by it, until it is committed
  pub claims : List (Option Holder)
  -- the evaluations that were committed
  pub log : List Entry
  -- the least cost that was published
  pub best : Option ℤ
  -- of each worker the least cost that it has seen, and its tickets: those in its hand, and those in its queue
  pub desks : List WorkerState

-- ---- the workers
abbrev pub IsWorker : Machine → ℕ → Type 0
IsWorker m worker = worker < length m.desks

-- nothing seen, and no ticket
abbrev pub no_desk : WorkerState
no_desk = record { seen = None; hand = []; queue = [] }

abbrev pub desk_in : List WorkerState → ℕ → WorkerState
desk_in desks worker = slice_index_or desks worker no_desk

abbrev pub desk_of : Machine → ℕ → WorkerState
desk_of m worker = desk_in m.desks worker

-- ---- the claims
-- who holds which node by the claim of this unit; units count from 1
abbrev pub holder_in : List (Option Holder) → ℕ → Option Holder
holder_in claims unit = slice_index_or (None ∷ claims) unit None

abbrev pub holder_of : Machine → ℕ → Option Holder
holder_of m unit = holder_in m.claims unit

-- the worker holds the unit, and by it the node
abbrev pub IsHolding : Machine → ℕ → ℕ → ℕ → Type 0
IsHolding m worker unit node = holder_of m unit ≡ Some (record { worker = worker; node = node })

-- the node is held by some worker
pub record IsHeldIn (claims : List (Option Holder)) (node : ℕ) : Type 0 where
  pub claim : ℕ
  pub worker : ℕ
  pub holds : slice_get claims claim ≡ Some (Some (record { worker = worker; node = node }))

abbrev pub IsHeld : Machine → ℕ → Type 0
IsHeld m node = IsHeldIn m.claims node

-- an open leaf stands there
abbrev pub IsLive : Spot → Type 0
IsLive (spot.Leaf (leaf.Live table value exact)) = Unit {0}
IsLive _ = ⊥

-- the node is an open leaf, and no worker holds it
pub record IsOpen (m : Machine) (node : ℕ) : Type 0 where
  pub live : IsOpenAt m.tree.nodes node
  pub unheld : ¬ IsHeld m node

-- ---- the log
-- the entries of the node
abbrev pub entries_of : List Entry → ℕ → List Entry
entries_of log node = filter (λ entry. entry.node == node) log

-- ---- what a node stores
-- a table of which no bound is told
abbrev pub unbounded : ℕ → Stored
unbounded table = record { table = table; value = pos 0; exact = false }

abbrev pub leaf_stored : Leaf → Stored
leaf_stored (leaf.Live table value exact) = record { table = table; value = value; exact = exact }
leaf_stored (leaf.Bound table value exact) = record { table = table; value = value; exact = exact }
leaf_stored (leaf.Ray table) = unbounded table
leaf_stored (leaf.Empty g) = unbounded 0
leaf_stored (leaf.ExactRay table) = unbounded table
leaf_stored (leaf.ExactEmpty g) = unbounded 0

abbrev pub spot_stored : Option Spot → Stored
spot_stored None = unbounded 0
spot_stored (Some (spot.Leaf leaf)) = leaf_stored leaf
spot_stored (Some (spot.Inner g t off on)) = unbounded 0

abbrev pub stored_at : TreeView → ℕ → Stored
stored_at tree node = spot_stored (spot_at tree.nodes node)

-- ---- the start
-- for how many nodes there is room: the root, and two more for each claim
abbrev pub room_for : ℕ → ℕ
room_for budget = 2 * budget + 1

-- the first worker has the root's ticket
abbrev pub first_desk : WorkerState
first_desk = record { seen = None; hand = 0 ∷ []; queue = [] }

-- an open root of this table and its bound, by V
abbrev pub start_of : ℕ → ℕ → ℕ → ℕ → ℕ → Table → ℤ → Machine
start_of units periods workers budget gap table value = record {
  budget = budget;
  gap = gap;
  tree = record { units = units; periods = periods; room = room_for budget; nodes = EndAt 0 (leaf.Live 0 value false) };
  tables = table ∷ [];
  claims = [];
  log = [];
  best = None;
  desks = first_desk ∷ replicate (workers - 1) no_desk;
}
