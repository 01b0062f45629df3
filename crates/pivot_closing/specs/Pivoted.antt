-- What the log of a search tells that takes the exact dispatch of a commitment where its path has decided every cell, and when such a
-- search closes. Source: branch and bound on the commitment variables of the reference model by Knueven, Ostrowski and Watson, with each
-- commitment's dispatch as a linear program, whose dual values are the prices. This project's own form.
use Rattle.std.specs.Prelude.{◌≡◌, ◌≢◌, ℕ, ◌+◌, ◌*◌, ◌<◌, ◌≤◌, ◌⊎◌, true, false, List, ◌∷◌, ℤ, pos, ◌<ℤ◌, Option, Some, None, length, slice_get}
use Rattle.uc_model.specs.Prelude.{IsLawfulInstance, printed_cost, thermal_unit, thermal_count, tolerance_of}
use Rattle.uc_model.specs.declared.schedule.Printed.{Printed}
use Rattle.dual_model.specs.declared.node.Node.{Node}
use Rattle.dual_model.specs.declared.table.Table.{Table}
use Rattle.start_costs.specs.Regular.{AreStartsRegular}
use Rattle.branch_tree.specs.Prelude.{is_within_gap, is_schedule_within, status_by, IsNodeAt, tree_bound, TreeView, IsSizeOf, IsWhole, IsOpenAt, HasFreeCell, IsTrueLog}
use Rattle.branch_tree.specs.declared.found.Entry.{Entry}
use Rattle.branch_tree.specs.declared.found.Outcome.{Outcome}
use Rattle.branch_tree.specs.declared.found.Outcome.TheVariants.{Value, Empty}
use Rattle.search_machine.specs.Prelude.{entries_of, bound_of}
use Rattle.dispatch_rules.specs.Prelude.{Pattern}
use Rattle.decided_nodes.specs.Decided.{ArePatternsAt}
use Rattle.pivot_dispatch.specs.Answers.{IsAnswer}
use Rattle.pivot_dispatch.specs.declared.pivot.DispatchAnswer.{DispatchAnswer}
use Rattle.pivot_dispatch.specs.declared.pivot.WideCause.{WideCause}
use Rattle.pivot_dispatch.specs.declared.pivot.DispatchAnswer.TheVariants.{Best, Ray, Wide}
use Rattle.decided_nodes.specs.Pivoting.{cell_count, node_limit}
pub use Rattle.uc_model.specs.declared.instance.Instance.{Instance}

-- ---- the evaluations of a node
-- after its first evaluation the node goes on: there are later ones, or its leaf is open still
abbrev pub GoesOn : TreeView → ℕ → List Entry → Type 0
GoesOn tree number later = (0 < length later) ⊎ IsOpenAt tree.nodes number

-- an evaluation of value v is at the table of the exact dispatch's answer, and the node goes on only where this doesn't close it: where the cost that
-- is printed isn't within the gap of the bound, or the ray's value isn't above 0. An answer Wide says nothing
abbrev pub IsByAnswer : Instance → ℕ → (Table → Type 0) → Type 0 → ℤ → DispatchAnswer → Type 0
IsByAnswer instance gap is_table goes_on v (Best printed table) =
    is_table table × (goes_on → is_within_gap (printed_cost instance printed) (Some (bound_of v table.k)) gap ≡ false)
IsByAnswer instance gap is_table goes_on v (Ray table) = is_table table × (goes_on → ¬ (pos 0 <ℤ v))
IsByAnswer instance gap is_table goes_on v (Wide what size other pivots) = Unit {0}

-- a first evaluation by the exact dispatch of a commitment at the node; where a unit has no pattern there, the node doesn't go on
abbrev pub IsExactFirst : Instance → ℕ → (Table → Type 0) → Node → Type 0 → Outcome → Type 0
IsExactFirst instance gap is_table node goes_on (Value v) =
    (patterns : List Pattern)
    × (ArePatternsAt instance node patterns
    × ((pivot : DispatchAnswer) × (IsAnswer instance patterns pivot × IsByAnswer instance gap is_table goes_on v pivot)))
IsExactFirst instance gap is_table node goes_on (Empty g) = ¬ goes_on

-- ---- the log
pub record IsPivoted (instance : Instance) (budget gap : ℕ) (tree : TreeView) (tables : List Table) (log : List Entry) : Type 0 where
  -- where the budget is enough for each node of a whole tree, none at which a cell is undecided goes on
  pub direct : node_limit instance ≤ budget → (number : ℕ) (first : Entry) (later : List Entry) → HasFreeCell tree number
      → entries_of log number ≡ first ∷ later → ¬ GoesOn tree number later
  -- where no cell is undecided, the first evaluation is by the exact dispatch
  pub exact : (number : ℕ) (node : Node) (first : Entry) (later : List Entry) → IsNodeAt tree number node → ¬ HasFreeCell tree number
      → entries_of log number ≡ first ∷ later
      → IsExactFirst instance gap (λ table. slice_get tables first.table ≡ Some table) node (GoesOn tree number later) first.outcome

-- ---- when it closes
-- roundings of a printed cost and of its bound that the tolerance has to cover, in micro-dollars
abbrev pub rounding_limit : Instance → ℕ
rounding_limit instance = 2 * cell_count instance + 2 * instance.periods + 1

-- a commitment that the search evaluates: one at a node at which no cell is undecided, and which has an entry
pub record IsEvaluated (instance : Instance) (tree : TreeView) (log : List Entry) (patterns : List Pattern) : Type 0 where
  pub number : ℕ
  pub node : Node
  pub is_node : IsNodeAt tree number node
  pub decided : ¬ HasFreeCell tree number
  pub evaluated : 0 < length (entries_of log number)
  pub commitment : ArePatternsAt instance node patterns

-- the budget is enough for each node of a whole tree; each unit's start rows are regular; and of the commitments that the search evaluates, the
-- exact dispatch of none meets a limit, and the tolerance of each one's printed cost covers the roundings
pub record IsWithinReach (instance : Instance) (budget gap : ℕ) (tree : TreeView) (log : List Entry) : Type 0 where
  pub enough : node_limit instance ≤ budget
  pub regular : (g : ℕ) → g < thermal_count instance → AreStartsRegular (thermal_unit instance g)
  pub none_wide : (patterns : List Pattern) (what : WideCause) (size other : ℤ) (pivots : ℕ) → IsEvaluated instance tree log patterns
      → ¬ IsAnswer instance patterns (Wide what size other pivots)
  pub tolerances : (patterns : List Pattern) (printed : Printed) (table : Table) → IsEvaluated instance tree log patterns
      → IsAnswer instance patterns (Best printed table) → rounding_limit instance ≤ tolerance_of (printed_cost instance printed) gap

-- the log has as many entries as the budget has claims, unless the best schedule closes the tree, or no leaf has a bound
abbrev pub IsSpentElse : TreeView → List Entry → Option (Printed × ℤ) → ℕ → ℕ → Type 0
IsSpentElse tree log best budget gap = tree_bound tree ≢ None → is_schedule_within best (tree_bound tree) gap ≡ false → length log ≡ budget

-- such a search ends closed, or with each leaf excluded
abbrev pub PivotedSearchesClose : Type 0
PivotedSearchesClose =
    (instance : Instance) (budget gap : ℕ) (tree : TreeView) (tables : List Table) (log : List Entry) (best : Option (Printed × ℤ))
    → IsLawfulInstance instance → IsWithinReach instance budget gap tree log → IsSizeOf tree instance → IsWhole tree
    → IsTrueLog instance tree tables log → IsPivoted instance budget gap tree tables log → IsSpentElse tree log best budget gap
    → (tree_bound tree ≡ None) ⊎ (is_schedule_within best (tree_bound tree) gap ≡ true)

-- and so with the status 0, or with 3
abbrev pub ClosedStatuses : Type 0
ClosedStatuses =
    (best : Option (Printed × ℤ)) (bound : Option ℤ) (gap : ℕ) → (bound ≡ None) ⊎ (is_schedule_within best bound gap ≡ true)
    → (status_by best bound gap ≡ 0) ⊎ (status_by best bound gap ≡ 3)
