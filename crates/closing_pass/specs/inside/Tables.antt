-- At which table the closing pass evaluates a node.
use Rattle.std.specs.Prelude.{◌≡◌, ◌≢◌, ◌⊎◌, ℕ, ◌+◌, ◌≤◌, Bool, true, [], pos}
pub use Rattle.uc_model.specs.declared.instance.Instance.{Instance}
use Rattle.uc_model.specs.Prelude.{IsLawfulInstance}
use Rattle.dual_model.specs.Prelude.{IsNodeOf, HasEmptyUnit, IsLawfulTable}
pub use Rattle.dual_model.specs.declared.node.Node.{Node}
pub use Rattle.dual_model.specs.declared.table.Table.{Table}
use Rattle.branch_tree.specs.Prelude.{HasFreeCell}
use Rattle.search_machine.specs.Prelude.{entries_of, IsFresh, IsStoredTable}
pub use Rattle.book.specs.BookView.{BookView}
use Rattle.book.specs.Prelude.{state_of, IsStoredAt}
use Rattle.decided_nodes.specs.Decided.{DecidesEach, IsDispatched, IsWideAt}
use Rattle.found_schedule.specs.Found.{IsFoundIfAny}
use Rattle.search_desk.specs.Desks.{IsLaterWithin}
pub use Rattle.closing_pass.specs.declared.settling.Holding.{Holding}
pub use Rattle.closing_pass.specs.declared.settling.Settling.{Settling}
pub use Rattle.closing_pass.specs.declared.settling.Trial.{Trial}

-- the scale is a million and so much more
abbrev pub IsNewScale : ℕ → Table → Type 0
IsNewScale more table = table.k ≡ pos (1000000 + more)

-- the node of the unit, and what it stores
pub record IsHolding (instance : Instance) (book : BookView) (unit : ℕ) (holding : Holding) : Type 0 where
  pub lawful : IsLawfulInstance instance
  pub path : IsNodeOf instance holding.path
  pub table : IsLawfulTable instance holding.stored
  pub stored : IsStoredAt book unit holding.path holding.stored holding.bound

-- a lawful table for the next entry of the node: no entry of it is at the table; where it has none and isn't the root, while a cell is undecided
-- there, it is the one that it stores; and where it has one, the scale is within the one that is used then
pub record IsTrialAt (exact exact_dispatch : Bool) (instance : Instance) (book : BookView) (settling : Settling) (trial : Trial) : Type 0 where
  pub lawful : IsLawfulTable instance trial.table
  pub fresh : IsFresh (state_of book) (entries_of book.log settling.held.node) trial.table exact
  pub first : entries_of book.log settling.held.node ≡ [] → settling.held.node ≢ 0 → HasFreeCell book.tree settling.held.node
      → IsStoredTable (state_of book) settling.held.node trial.table
  pub later : IsLaterWithin trial.used settling.held.had trial.table
  pub from : settling.scale ≤ trial.used
  pub used : trial.used ≤ settling.scale + 2
  pub found : IsFoundIfAny exact_dispatch instance trial.found

-- where each cell is decided at the first claim of a node, and the search uses the exact dispatch, there is none
abbrev pub IsUndispatchedAt : Bool → Instance → Settling → Node → Type 0
IsUndispatchedAt exact_dispatch instance settling path =
    exact_dispatch ≡ true → settling.held.had ≡ 0 → DecidesEach instance path → HasEmptyUnit instance path ⊎ IsWideAt instance path

-- such a table, and where each cell is decided at the first claim, and the search uses the exact dispatch, it is by it, or there is none
pub record IsExactTrialAt (exact exact_dispatch : Bool) (instance : Instance) (book : BookView) (settling : Settling) (path : Node) (trial : Trial) : Type 0 where
  pub is : IsTrialAt exact exact_dispatch instance book settling trial
  pub dispatched : exact_dispatch ≡ true → settling.held.had ≡ 0 → DecidesEach instance path
      → IsDispatched instance path (record { table = trial.table; schedule = trial.found })
