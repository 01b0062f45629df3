-- A search by the exact dispatch evaluates each node once, and so it doesn't spend its budget.
-- Cite by `use Rattle.pivot_closing.proofs.Closing.{pivoted_searches_close, closed_statuses}`.
use Rattle.std.proofs.Common.{◌≡◌, ℕ, ◌<◌, ◌≤◌, ◌==◌, ◌⊎◌, inl, inr, ⊎_elim, Bool, true, false, refl, sym, subst, ◌∙◌, arith, List, [], ◌∷◌, ℤ, Option, Some, None, All, length, slice_get}
use Rattle.std.proofs.lemmas.Bool.{eqb-true, cond-true, true≢false}
use Rattle.std.proofs.lemmas.Option.{same_Some}
use Rattle.std.proofs.lemmas.List.Elements.{All-head, All-tail, All-cons, All-nil, All-filter, filter_passes}
use Rattle.uc_model.specs.Prelude.{IsLawfulInstance}
use Rattle.uc_model.specs.declared.instance.Instance.{Instance}
use Rattle.uc_model.specs.declared.schedule.Printed.{Printed}
use Rattle.dual_model.specs.Prelude.{IsCover, IsValueOf}
use Rattle.dual_model.specs.declared.node.Node.{Node}
use Rattle.dual_model.specs.declared.table.Table.{Table}
use Rattle.branch_tree.specs.Prelude.{is_within_gap, is_schedule_within, unnumbered, IsNodeAt, tree_bound, TreeView, IsSizeOf, IsWhole, HasFreeCell, IsOutcome, IsTrueEntry, IsTrueLog}
use Rattle.branch_tree.specs.declared.found.Entry.{Entry}
use Rattle.branch_tree.specs.declared.found.Outcome.{Outcome}
use Rattle.branch_tree.specs.declared.found.Outcome.TheVariants.{Value, Empty}
use Rattle.search_machine.specs.Prelude.{entries_of}
use Rattle.dispatch_rules.specs.Prelude.{Pattern, AreAllowed}
use Rattle.pivot_dispatch.specs.Answers.{IsAnswer}
use Rattle.pivot_dispatch.specs.declared.pivot.DispatchAnswer.{DispatchAnswer}
use Rattle.pivot_dispatch.specs.Commitments.{IsDecidedAt}
use Rattle.pivot_dispatch.specs.declared.pivot.DispatchAnswer.TheVariants.{Best, Ray, Wide}
use Rattle.pivot_closing.specs.Pivoted.{GoesOn, IsByAnswer, IsExactFirst, IsPivoted, IsEvaluated, IsWithinReach, IsSpentElse, PivotedSearchesClose, ClosedStatuses}
use Rattle.pivot_closing.proofs.Decided.{allowed_there, decided_at}
use Rattle.pivot_closing.proofs.Tolerances.{best_within, ray_positive}
use Rattle.pivot_closing.proofs.TreeSizes.{IsOfNode, trees_are_small, entries_within}

some_not_none : (b : ℤ) → Some b ≡ None → ⊥
some_not_none b e = cc

-- an entry of a true log is of a node of the tree
pub entry_nodes : (instance : Instance) (tree : TreeView) (tables : List Table) (log : List Entry) → All (IsTrueEntry instance tree tables) log
    → All (IsOfNode tree.nodes) log
entry_nodes instance tree tables [] each = All-nil (IsOfNode tree.nodes)
entry_nodes instance tree tables (entry ∷ rest) each =
    let own = All-head (IsTrueEntry instance tree tables) entry rest each in
    All-cons (IsOfNode tree.nodes) entry rest (record { node = own.node; is_node = own.is_node })
    (entry_nodes instance tree tables rest (All-tail (IsTrueEntry instance tree tables) entry rest each))

module _ (instance : Instance) (budget gap : ℕ) (tree : TreeView) (tables : List Table) (log : List Entry) (lawful : IsLawfulInstance instance)
    (reach : IsWithinReach instance budget gap tree log) (size : IsSizeOf tree instance) (whole : IsWhole tree) (true_log : IsTrueLog instance tree tables log)
    (pivoted : IsPivoted instance budget gap tree tables log) where
  cover : IsCover instance (unnumbered tree.nodes)
  cover = whole.cover instance size

  -- a node at which a commitment is decided doesn't go on after an evaluation of value v by the answer
  module _ (node : Node) (goes_on : Type 0) (on : goes_on) (exact : Bool) (table : Table) (is_table : Table → Type 0)
      (only : (other : Table) → is_table other → table ≡ other) (v : ℤ) (is : IsValueOf exact instance node table v) where
    same_table : (other : Table) → is_table other → IsValueOf exact instance node other v
    same_table other there = subst (λ (t : Table). IsValueOf exact instance node t v) (only other there) is

    by_answer : (patterns : List Pattern) (pivot : DispatchAnswer) → IsEvaluated instance tree log patterns → AreAllowed instance patterns
        → IsDecidedAt instance patterns node → IsAnswer instance patterns pivot → IsByAnswer instance gap is_table goes_on v pivot → ⊥
    by_answer patterns (Best printed other) met allowed decided answer by =
        true≢false (sym (best_within instance patterns lawful allowed printed other answer.1.1.0 reach.regular gap exact node v decided (same_table other by.0)
        (reach.tolerances patterns printed other met answer)) ∙ by.1 on)
    by_answer patterns (Ray other) met allowed decided answer by =
        by.1 on (ray_positive instance patterns lawful allowed other exact node v answer.1.1.0 decided (same_table other by.0))
    by_answer patterns (Wide what size other pivots) met allowed decided answer by = reach.none_wide patterns what size other pivots met answer

  -- so where no cell is undecided, no node goes on
  ends_first : (number : ℕ) (node : Node) (exact : Bool) (outcome : Outcome) (table : Table) (is_table : Table → Type 0) (goes_on : Type 0)
      → IsNodeAt tree number node → ¬ HasFreeCell tree number → 0 < length (entries_of log number) → ((other : Table) → is_table other → table ≡ other)
      → IsOutcome exact instance node table outcome → IsExactFirst instance gap is_table node goes_on outcome → ¬ goes_on
  ends_first number node exact (Value v) table is_table goes_on at none some only told first =
      λ on.
      by_answer node goes_on on exact table is_table only v told first.0 first.1.1.0
      (record { number = number; node = node; is_node = at; decided = none; evaluated = some; commitment = first.1.0 })
      (allowed_there instance node first.0 first.1.0) (decided_at tree instance number node first.0 size cover at none first.1.0) first.1.1.1.0 first.1.1.1.1
  ends_first number node exact (Empty g) table is_table goes_on at none some only told first = first

  -- and each node has one entry at most
  alone : (number : ℕ) (entries : List Entry) → entries_of log number ≡ entries → length entries ≤ 1
  alone number [] e = omega arith
  alone number (first ∷ []) e = omega arith
  alone number (first ∷ second ∷ later) e = absurd (
      let passes : All (λ entry. (entry.node == number) ≡ true) (first ∷ second ∷ later) =
      subst (All (λ entry. (entry.node == number) ≡ true)) e (filter_passes (λ entry. entry.node == number) log) in
      let trues : All (IsTrueEntry instance tree tables) (first ∷ second ∷ later) =
      subst (All (IsTrueEntry instance tree tables)) e (All-filter (λ entry. entry.node == number) (IsTrueEntry instance tree tables) log true_log.entries) in
      let same = eqb-true first.node number (All-head (λ entry. (entry.node == number) ≡ true) first (second ∷ later) passes) in
      let own = All-head (IsTrueEntry instance tree tables) first (second ∷ later) trues in
      let at : IsNodeAt tree number own.node = subst (λ n. IsNodeAt tree n own.node) same own.is_node in
      let on : GoesOn tree number (second ∷ later) = inl (omega arith) in
      let none : ¬ HasFreeCell tree number = λ free. pivoted.direct reach.enough number first (second ∷ later) free e on in
      let some : 0 < length (entries_of log number) = subst (λ (entries : List Entry). 0 < length entries) (sym e) (omega arith) in
      ends_first number own.node first.exact first.outcome own.table (λ table. slice_get tables first.table ≡ Some table) (GoesOn tree number (second ∷ later)) at none
      some (λ other there. same_Some own.table other (sym own.is_table ∙ there)) own.outcome (pivoted.exact number own.node first (second ∷ later) at none e) on)

  short : length log < budget
  short =
      let few = entries_within tree.nodes log whole.numbered (entry_nodes instance tree tables log true_log.entries)
      (λ number within. alone number (entries_of log number) refl) in
      let small = trees_are_small instance tree.nodes cover in
      omega (arith, few, small, reach.enough)

  closes : (best : Option (Printed × ℤ)) (bound : Option ℤ) (within : Bool) → tree_bound tree ≡ bound → is_schedule_within best (tree_bound tree) gap ≡ within
      → IsSpentElse tree log best budget gap → (tree_bound tree ≡ None) ⊎ (is_schedule_within best (tree_bound tree) gap ≡ true)
  closes best None within e is spent = inl e
  closes best (Some b) true e is spent = inr is
  closes best (Some b) false e is spent =
      absurd (let whole_budget = spent (λ none. some_not_none b (sym e ∙ none)) is in omega (arith, short, whole_budget))

pub pivoted_searches_close : PivotedSearchesClose
pivoted_searches_close instance budget gap tree tables log best lawful reach size whole true_log pivoted spent =
    closes instance budget gap tree tables log lawful reach size whole true_log pivoted best (tree_bound tree) (is_schedule_within best (tree_bound tree) gap)
    refl refl spent

-- ---- the status
pub closed_statuses : ClosedStatuses
closed_statuses best None gap closed = inr refl
closed_statuses None (Some b) gap closed = ⊎_elim
    (λ (none : Some b ≡ None). absurd (some_not_none b none))
    (λ (within : false ≡ true). absurd (true≢false (sym within)))
    closed
closed_statuses (Some priced) (Some b) gap closed = ⊎_elim
    (λ (none : Some b ≡ None). absurd (some_not_none b none))
    (λ (within : is_within_gap priced.1 (Some b) gap ≡ true). inl (cond-true (is_within_gap priced.1 (Some b) gap) 0 1 within))
    closed
