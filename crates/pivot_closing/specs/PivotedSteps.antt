-- Which commits of the search machine keep to the exact dispatch of decided commitments, and that what the log tells of it is kept by them. This
-- project's own form of branch and bound.
use Rattle.std.specs.Prelude.{◌≡◌, ℕ, ◌≤◌, Bool, List, []}
use Rattle.dual_model.specs.declared.node.Node.{Node}
use Rattle.dual_model.specs.declared.table.Table.{Table}
use Rattle.branch_tree.specs.Prelude.{IsNodeAt, TreeView, HasFreeCell}
use Rattle.branch_tree.specs.declared.found.Entry.{Entry}
use Rattle.branch_tree.specs.declared.found.Outcome.{Outcome}
use Rattle.search_machine.specs.Prelude.{Machine, IsHolding, entries_of, IsFreeFor, IsOrderly, committed}
use Rattle.search_machine.specs.declared.event.Move.{Move}
use Rattle.search_machine.specs.declared.event.Move.TheVariants.{Again}
use Rattle.pivot_closing.specs.Pivoted.{Instance, IsExactFirst, IsPivoted}
use Rattle.decided_nodes.specs.Pivoting.{node_limit}

-- the move leaves the node open
abbrev pub IsAgain : Move → Type 0
IsAgain Again = Unit {0}
IsAgain _ = ⊥

-- an entry of a node that keeps to it, and the move by which its claim ends, in a tree with this log
pub record IsPivotedCommit (instance : Instance) (budget gap : ℕ) (tree : TreeView) (log : List Entry) (node : ℕ) (table : Table) (outcome : Outcome)
    (action : Move) : Type 0 where
  -- where the budget is enough for each node of a whole tree, the first at which a cell is undecided doesn't end in Again
  pub direct : node_limit instance ≤ budget → HasFreeCell tree node → entries_of log node ≡ [] → ¬ IsAgain action
  -- where none is, the first is by the exact dispatch, and ends in Again only where this doesn't close the node
  pub exact : (here : Node) → IsNodeAt tree node here → ¬ HasFreeCell tree node → entries_of log node ≡ []
      → IsExactFirst instance gap (λ other. table ≡ other) here (IsAgain action) outcome

-- at the start, with no entry, it is so
abbrev pub StartsArePivoted : Type 0
StartsArePivoted = (instance : Instance) (budget : ℕ) (m : Machine) → m.log ≡ [] → IsPivoted instance budget m.gap m.tree m.tables m.log

-- and after such a commit it is so again
abbrev pub CommitsKeepPivoted : Type 0
CommitsKeepPivoted =
    (instance : Instance) (budget : ℕ) (m : Machine) (worker unit node : ℕ) (table : Table) (exact : Bool) (outcome : Outcome) (action : Move)
    → IsOrderly m → IsHolding m worker unit node → IsFreeFor m.tree node action → IsPivotedCommit instance budget m.gap m.tree m.log node table outcome action
    → IsPivoted instance budget m.gap m.tree m.tables m.log
    → (let next = committed m worker unit node table exact outcome action in IsPivoted instance budget m.gap next.tree next.tables next.log)
