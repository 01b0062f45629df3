-- What a search over the tree leaves. This project's own form.
use Rattle.std.specs.Prelude.{◌≡◌, ◌≢◌, ℕ, ◌+◌, ◌*◌, ◌≤◌, true, false, Bool, All, List, ℤ, Option, Some, None, length, slice_get}
pub use Rattle.uc_model.specs.declared.instance.Instance.{Instance}
use Rattle.uc_model.specs.declared.schedule.Printed.{Printed}
use Rattle.dual_model.specs.Prelude.{IsClaimTrue, IsLawfulTable, root, IsCover, EachLeaf}
use Rattle.dual_model.specs.declared.table.Table.{Table}
use Rattle.branch_tree.specs.Prelude.{is_schedule_within, IsPlainTree, node_count, tree_bound, StoredHolds, TreeView, IsSizeOf, IsWhole, tree_of, IsTrueLog}
pub use Rattle.branch_tree.specs.declared.found.Entry.{Entry}
use Rattle.pivot_closing.specs.Pivoted.{IsPivoted}
use Rattle.search_machine.specs.Prelude.{bound_of, Owns, HasFewEntries}
pub use Rattle.opening.specs.declared.root_tables.Priced.{Priced}
use Rattle.search_desk.specs.Desks.{IsSizedEntry}
use Rattle.search_desk.specs.Kinds.{IsOfKind}
use Rattle.search_desk.specs.declared.grown.Grown.{Grown}

-- no more than the budget was spent, and the whole, unless the best schedule closes the tree, or no leaf has a bound
pub record IsSpentUnlessClosed (tree : TreeView) (log : List Entry) (best : Option (Printed × ℤ)) (budget gap : ℕ) : Type 0 where
  pub within : length log ≤ budget
  pub spent : tree_bound tree ≢ None → is_schedule_within best (tree_bound tree) gap ≡ false → length log ≡ budget

-- the tree is a cover whose leaves hold what they store, at lawful tables, the log is true, and each node stores what its entries leave, by
-- what the root begins with
pub record IsTreeOf (instance : Instance) (opening : Priced) (tree : TreeView) (tables : List Table) (log : List Entry) : Type 0 where
  pub whole : IsWhole tree
  pub cover : IsCover instance (tree_of tree)
  pub stored : EachLeaf (StoredHolds instance tables) root (tree_of tree)
  pub bound : IsClaimTrue instance (tree_bound tree)
  pub lawful : All (IsLawfulTable instance) tables
  pub logged : IsTrueLog instance tree tables log
  pub first : slice_get tables 0 ≡ Some opening.table
  pub own : Owns tree tables log (record { table = 0; value = bound_of opening.value opening.table.k; exact = false })
  pub few : HasFewEntries tree log

-- what a search leaves
pub record IsGrown (exact : Bool) (instance : Instance) (opening : Priced) (budget gap : ℕ) (grown : Grown) : Type 0 where
  pub tree : IsTreeOf instance opening grown.tree grown.tables grown.log
  pub plain : exact ≡ false → IsPlainTree grown.tree
  pub of_kind : All (IsOfKind exact) grown.log
  pub sized : All IsSizedEntry grown.log
  pub spent : IsSpentUnlessClosed grown.tree grown.log grown.best budget gap
  -- a claim adds two nodes at most
  pub nodes : node_count grown.tree.nodes ≤ 2 * budget + 1

-- its tree is of the instance's cells, and its log tells of exact dispatches, where the search uses them
pub record IsPivotedGrown (exact_dispatch : Bool) (instance : Instance) (budget gap : ℕ) (grown : Grown) : Type 0 where
  pub size : IsSizeOf grown.tree instance
  pub pivoted : exact_dispatch ≡ true → IsPivoted instance budget gap grown.tree grown.tables grown.log
