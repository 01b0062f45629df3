-- How a search keeps to the exact dispatch of decided commitments, evaluation by evaluation. This project's own form of branch and bound.
use Rattle.std.specs.Prelude.{◌≡◌, ℕ, ◌≤◌, Bool, true, ℤ, Option, Some, None, List}
use Rattle.uc_model.specs.Prelude.{printed_cost}
use Rattle.dual_model.specs.declared.node.Node.{Node}
use Rattle.branch_tree.specs.Prelude.{IsSizeOf}
use Rattle.branch_tree.specs.declared.found.Outcome.{Outcome}
use Rattle.branch_tree.specs.declared.found.Outcome.TheVariants.{Value, Empty}
use Rattle.dispatch_rules.specs.Prelude.{Pattern}
use Rattle.pivot_dispatch.specs.Answers.{IsAnswer}
use Rattle.pivot_dispatch.specs.declared.pivot.DispatchAnswer.{DispatchAnswer}
use Rattle.pivot_dispatch.specs.declared.pivot.DispatchAnswer.TheVariants.{Best, Ray, Wide}
use Rattle.decided_nodes.specs.Decided.{ArePatternsAt, DecidesEach}
use Rattle.decided_nodes.specs.Pivoting.{node_limit}
use Rattle.decided_nodes.specs.declared.pivoting.Pivoting.{Pivoting}
use Rattle.decided_nodes.specs.declared.pivoting.Pivoting.TheVariants.{Exhaustive}
use Rattle.pivot_closing.specs.Pivoted.{IsPivoted}
use Rattle.incumbent.specs.Costs.{AtMost}
use Rattle.search_desk.specs.Desks.{Instance, Table, BookView, Opening}
use Rattle.search_desk.specs.declared.desk.Evaluated.{Evaluated}

-- ---- an evaluation
-- it is at the table of the exact dispatch's answer, and the schedule's printed cost was seen, or a lower one. An answer Wide says nothing
abbrev pub IsAtAnswer : Instance → Option ℤ → Table → DispatchAnswer → Type 0
IsAtAnswer instance seen table (Best printed other) = (table ≡ other) × AtMost seen (Some (printed_cost instance printed))
IsAtAnswer instance seen table (Ray other) = table ≡ other
IsAtAnswer instance seen table (Wide what size other pivots) = Unit {0}

-- a value is at that of a commitment at the node
abbrev pub IsByDispatch : Instance → Node → Option ℤ → Table → Outcome → Type 0
IsByDispatch instance node seen table (Value v) =
    (patterns : List Pattern)
    × (ArePatternsAt instance node patterns × ((pivot : DispatchAnswer) × (IsAnswer instance patterns pivot × IsAtAnswer instance seen table pivot)))
IsByDispatch instance node seen table (Empty g) = Unit {0}

-- an evaluation keeps to the exact dispatch: where the budget is enough for each node of a whole tree, and a cell is undecided at the node, it has
-- a cell to split this on; and where none is, it is by the exact dispatch
pub record KeepsToDispatch (opening : Opening) (path : Node) (seen : Option ℤ) (done : Evaluated) : Type 0 where
  pub direct : node_limit opening.instance ≤ opening.budget → done.cell ≡ None → DecidesEach opening.instance path
  pub exact : DecidesEach opening.instance path → IsByDispatch opening.instance path seen done.table done.outcome

-- the first one of a node does, where the search uses the exact dispatch
abbrev pub IsFirstByDispatch : Bool → Opening → Node → ℕ → Option ℤ → Evaluated → Type 0
IsFirstByDispatch exact_dispatch opening path had seen done = exact_dispatch ≡ true → had ≡ 0 → KeepsToDispatch opening path seen done

-- where the budget is enough for each node of a whole tree, the search is exhaustive
abbrev pub IsExhaustiveFor : Bool → Opening → Pivoting → Type 0
IsExhaustiveFor exact_dispatch opening pivoting = exact_dispatch ≡ true → node_limit opening.instance ≤ opening.budget → pivoting ≡ Exhaustive

-- ---- the book
-- its tree is of the instance's cells, and its log tells that first evaluations were so, where the search uses the exact dispatch
pub record IsPivotedBook (exact_dispatch : Bool) (opening : Opening) (book : BookView) : Type 0 where
  pub size : IsSizeOf book.tree opening.instance
  pub pivoted : exact_dispatch ≡ true → IsPivoted opening.instance opening.budget opening.gap book.tree book.tables book.log
