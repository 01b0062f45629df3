-- A first evaluation that keeps to the exact dispatch is committed so, and the book's log tells it.
use Rattle.std.proofs.Common.{◌≡◌, ◌∙◌, ◌⊎◌, ⊎_elim, ℕ, ◌≤◌, Bool, true, false, ◌&&◌, refl, ap, sym, subst, List, [], length, ℤ, pos, ◌-ℤ◌, ◌≤ℤ◌, ◌<ℤ◌, int_lt, Option, Some, None, arith, if◌then◌else◌}
use Rattle.std.specs.Ordering.{int_eq}
use Rattle.std.proofs.lemmas.Int.{ints}
use Rattle.std.proofs.lemmas.Option.{same_Some}
use Rattle.uc_model.specs.Prelude.{printed_cost, tolerance_of}
use Rattle.uc_model.specs.declared.tolerance.TheConstants.{WHOLE_GAP}
use Rattle.uc_model.proofs.Common.{linear, int_le-true, le-int_le}
use Rattle.dual_model.specs.Prelude.{HasEmptyUnit, IsValueOf}
use Rattle.dual_model.specs.declared.node.Node.{Node}
use Rattle.branch_tree.specs.Prelude.{is_within_gap, IsNodeAt, TreeView, IsSizeOf, HasFreeCell}
use Rattle.branch_tree.specs.declared.found.Outcome.{Outcome}
use Rattle.branch_tree.specs.declared.found.Outcome.TheVariants.{Value, Empty}
use Rattle.dispatch_rules.specs.Prelude.{Pattern}
use Rattle.pivot_dispatch.specs.Answers.{IsAnswer}
use Rattle.pivot_dispatch.specs.declared.pivot.DispatchAnswer.{DispatchAnswer}
use Rattle.pivot_dispatch.specs.declared.pivot.DispatchAnswer.TheVariants.{Best, Ray as RayAnswer, Wide}
use Rattle.decided_nodes.specs.Decided.{DecidesEach, IsDecided, IsDispatched, IsToldBy, IsWideAt}
use Rattle.decided_nodes.specs.declared.decided.Decided.{Decided}
use Rattle.decided_nodes.specs.Pivoting.{node_limit}
use Rattle.pivot_closing.specs.Pivoted.{IsByAnswer, IsExactFirst}
use Rattle.pivot_closing.specs.PivotedSteps.{IsAgain}
use Rattle.pivot_closing.proofs.Closing.{entry_nodes}
use Rattle.pivot_closing.proofs.Decided.{cell_decided}
use Rattle.pivot_closing.proofs.PivotedSteps.{entries_keep_pivoted}
use Rattle.pivot_closing.proofs.TreeSizes.{entries_below}
use Rattle.incumbent.specs.Costs.{AtMost}
use Rattle.search_machine.specs.Prelude.{IsHolding, entries_of, bound_of, kept, IsTrueOutcome, TreeRunsHold}
use Rattle.search_machine.specs.declared.event.Move.{Move}
use Rattle.search_machine.specs.declared.event.Move.TheVariants.{Ray}
use Rattle.search_machine.proofs.Claims.{holdable}
use Rattle.search_machine.proofs.Growth.{tree_grows}
use Rattle.search_machine.proofs.OrderlySteps.{free_for, sound_of}
use Rattle.search_machine.proofs.TrueSteps.{NeverDecreases, best_within}
use Rattle.book.specs.Prelude.{state_of, IsAbandonAnswer, IsClaimAnswer, IsCommitAnswer, IsHeldUnit, MayBe, committed, IsTrueOpening, number_of, replayed, IsRunning}
use Rattle.book.specs.BookView.{opened}
use Rattle.book.specs.declared.claims.Claimed.{Claimed}
use Rattle.book.specs.declared.claims.Claimed.TheVariants.{Spent, NotOpen, Mine}
use Rattle.book.proofs.Books.{run_holds}
use Rattle.book.proofs.Steps.{held_still}
use Rattle.search_desk.specs.Best.{cost_of}
use Rattle.search_desk.specs.Commits.{bound_after, move_for, move_of, value_move}
use Rattle.search_desk.specs.Desks.{BookView, Instance, Opening, Table}
use Rattle.search_desk.specs.Dispatches.{IsAtAnswer, IsByDispatch, IsFirstByDispatch, IsPivotedBook, KeepsToDispatch}
use Rattle.search_desk.specs.declared.desk.Evaluated.{Evaluated}
use Rattle.search_desk.proofs.Claimed.{one_node}

-- ---- a lower cost that was seen
pub by_dispatch-lower : (instance : Instance) (node : Node) (seen lower : Option ℤ) (table : Table) (outcome : Outcome) → AtMost lower seen
    → IsByDispatch instance node seen table outcome → IsByDispatch instance node lower table outcome
by_dispatch-lower instance node seen lower table (Value v) below is = grind (arith, ints, v, below, is)
by_dispatch-lower instance node seen lower table (Empty g) below is = tt

pub first_lower : (exact_dispatch : Bool) (opening : Opening) (path : Node) (had : ℕ) (seen lower : Option ℤ) (done : Evaluated) → AtMost lower seen
    → IsFirstByDispatch exact_dispatch opening path had seen done → IsFirstByDispatch exact_dispatch opening path had lower done
first_lower exact_dispatch opening path had seen lower done below is = grind (arith, ints, below, is)

-- ---- what the exact dispatch gives
-- where a node has a value, each unit has a pattern there
no_empty : (exact : Bool) (instance : Instance) (node : Node) (table : Table) (v : ℤ) → IsValueOf exact instance node table v → ¬ HasEmptyUnit instance node
no_empty false instance node table v is empty =
    let unit = is.units empty.unit empty.within in empty.empty unit.on unit.best.pattern
no_empty true instance node table v is empty =
    let unit = is.units empty.unit empty.within in empty.empty unit.on unit.best.pattern

told_by : (instance : Instance) (pivot : DispatchAnswer) (told : Decided) → IsToldBy instance pivot told
    → IsAtAnswer instance (cost_of told.schedule) told.table pivot
told_by instance (Best printed table) told is = grind (arith, ints, printed, is)
told_by instance (RayAnswer table) told is = is.0
told_by instance (Wide what size other pivots) told is = absurd is

-- an evaluation at its table, whose schedule was seen, is by the exact dispatch
pub by_dispatch : (exact : Bool) (instance : Instance) (node : Node) (told : Decided) (outcome : Outcome) → IsTrueOutcome exact instance node told.table outcome
    → IsDispatched instance node told → IsByDispatch instance node (cost_of told.schedule) told.table outcome
by_dispatch exact instance node told (Empty g) is dispatched = tt
by_dispatch exact instance node told (Value v) is dispatched =
    ⊎_elim
    (λ (own : IsDecided instance node told). (own.patterns, (own.are, (own.pivot, (own.answer, told_by instance own.pivot told own.is)))))
    (λ (none : HasEmptyUnit instance node ⊎ IsWideAt instance node).
    ⊎_elim
    (λ (empty : HasEmptyUnit instance node). absurd (no_empty exact instance node told.table v is.told empty))
    (λ (wide : IsWideAt instance node). (wide.patterns, (wide.are, (Wide wide.what wide.size wide.other wide.pivots, (wide.answer, tt)))))
    none)
    dispatched

-- ---- the cells of a node
-- its path decides each cell of the instance just where it has no free one
pub decided : (tree : TreeView) (instance : Instance) (number : ℕ) (path : Node) → IsSizeOf tree instance → IsNodeAt tree number path → ¬ HasFreeCell tree number
    → DecidesEach instance path
decided tree instance number path size at none g hg t ht = cell_decided tree instance number path g t size at none hg ht

pub undecided : (tree : TreeView) (instance : Instance) (number : ℕ) (path : Node) → IsSizeOf tree instance → IsNodeAt tree number path → HasFreeCell tree number
    → ¬ DecidesEach instance path
undecided tree instance number path size at cell each = grind (arith, ints, size, at, cell, each)

-- ---- the move
abbrev IsOver : Move → Type 0
IsOver action = ¬ IsAgain action

-- with a cell to split on the node isn't left open
split_over : (seen : Option ℤ) (stored : ℤ) (gap : ℕ) (k : ℤ) (cell : ℕ × ℕ) (outcome : Outcome) → IsOver (move_of seen stored gap k (Some cell) outcome)
split_over seen stored gap k cell (Value v) = grind (arith, ints, v)
split_over seen stored gap k cell (Empty g) = λ again. again

-- nor where a cost was seen that is within the gap of the bound
within_over : NeverDecreases → (seen : Option ℤ) (cost value stored : ℤ) (gap : ℕ) (cell : Option (ℕ × ℕ)) → gap ≤ WHOLE_GAP → AtMost seen (Some cost)
    → value ≤ℤ stored → is_within_gap cost (Some value) gap ≡ true → IsOver (value_move seen stored gap cell)
within_over law None cost value stored gap cell whole below above within = absurd below
within_over law (Some least) cost value stored gap cell whole below above within =
    let first = int_le-true (least -ℤ value) (pos (tolerance_of least gap)) (best_within law (Some least) cost value gap whole below within) in
    let here : is_within_gap least (Some stored) gap ≡ true = le-int_le (least -ℤ stored) (pos (tolerance_of least gap)) (omega (arith, linear, first, above)) in
    rw here (λ again. again)

value_again : (ray : Bool) (move : Move) → IsAgain (if ray then Ray else move) → IsAgain move
value_again true move again = absurd again
value_again false move again = again

-- nor where a ray's value is above 0
ray_over : (seen : Option ℤ) (stored : ℤ) (gap : ℕ) (k : ℤ) (cell : Option (ℕ × ℕ)) (v : ℤ) → k ≡ pos 0 → pos 0 <ℤ v
    → IsOver (move_of seen stored gap k cell (Value v))
ray_over seen stored gap k cell v zero above = grind (arith, ints, above)

-- the node stores no less than the bound of the value
stored_above : (former k v : ℤ) → pos 0 <ℤ k → bound_of v k ≤ℤ bound_after former k (Value v)
stored_above former k v some = grind (arith, ints, some)

-- ---- the commit
module _ (law : NeverDecreases) (opening : Opening) (tree : TreeView) (node : ℕ) (path : Node) (seen : Option ℤ) (former : ℤ) (done : Evaluated)
    (whole : opening.gap ≤ WHOLE_GAP) (size : IsSizeOf tree opening.instance) (at : IsNodeAt tree node path) (keeps : KeepsToDispatch opening path seen done) where
  abbrev move_by : Outcome → Move
  move_by outcome = move_of seen (bound_after former done.table.k outcome) opening.gap done.table.k done.cell outcome

  splits : node_limit opening.instance ≤ opening.budget → HasFreeCell tree node → IsOver (move_by done.outcome)
  splits enough free = by_cell done.cell refl
    where
      by_cell : (cell : Option (ℕ × ℕ)) → done.cell ≡ cell → IsOver (move_by done.outcome)
      by_cell None none = absurd (undecided tree opening.instance node path size at free (keeps.direct enough none))
      by_cell (Some cell) there =
          subst (λ c. IsOver (move_of seen (bound_after former done.table.k done.outcome) opening.gap done.table.k c done.outcome)) (sym there)
          (split_over seen (bound_after former done.table.k done.outcome) opening.gap done.table.k cell done.outcome)

  -- the exact dispatch's schedule closes its node where it is within the gap of the bound
  best_over : (v : ℤ) (cost : ℤ) (table : Table) → done.table ≡ table → AtMost seen (Some cost) → pos 0 <ℤ table.k → IsAgain (move_by (Value v))
      → is_within_gap cost (Some (bound_of v table.k)) opening.gap ≡ false
  best_over v cost table same below some again = by_test (is_within_gap cost (Some (bound_of v table.k)) opening.gap) refl
    where
      scale : table.k ≡ done.table.k
      scale = sym (ap (λ (t : Table). t.k) same)

      above : bound_of v table.k ≤ℤ bound_after former done.table.k (Value v)
      above = subst (λ k. bound_of v k ≤ℤ bound_after former done.table.k (Value v)) (sym scale)
          (stored_above former done.table.k v (subst (λ k. pos 0 <ℤ k) scale some))

      by_test : (within : Bool) → is_within_gap cost (Some (bound_of v table.k)) opening.gap ≡ within → within ≡ false
      by_test false is = refl
      by_test true is = absurd (within_over law seen cost (bound_of v table.k) (bound_after former done.table.k (Value v)) opening.gap done.cell whole below above is
          (value_again (int_eq done.table.k (pos 0) && int_lt (pos 0) v) (value_move seen (bound_after former done.table.k (Value v)) opening.gap done.cell) again))

  by_pivot : (v : ℤ) (patterns : List Pattern) (pivot : DispatchAnswer) → IsAnswer opening.instance patterns pivot → IsAtAnswer opening.instance seen done.table pivot
      → IsByAnswer opening.instance opening.gap (λ other. done.table ≡ other) (IsAgain (move_by (Value v))) v pivot
  by_pivot v patterns (Best printed table) answer is =
      (is.0, λ again. best_over v (printed_cost opening.instance printed) table is.0 is.1 answer.1.1.0.scale again)
  by_pivot v patterns (RayAnswer table) answer is = (
    is,
    λ again above. ray_over seen (bound_after former done.table.k (Value v)) opening.gap done.table.k done.cell v
        (ap (λ (t : Table). t.k) is ∙ answer.1.1.0.scale) above again,
  )
  by_pivot v patterns (Wide what size other pivots) answer is = tt

  exact_first : (outcome : Outcome) → IsByDispatch opening.instance path seen done.table outcome
      → IsExactFirst opening.instance opening.gap (λ other. done.table ≡ other) path (IsAgain (move_by outcome)) outcome
  exact_first (Value v) is = (is.0, (is.1.0, (is.1.1.0, (is.1.1.1.0, by_pivot v is.0 is.1.1.0 is.1.1.1.0 is.1.1.1.1))))
  exact_first (Empty g) is = λ again. again

  here_first : (here : Node) → IsNodeAt tree node here → ¬ HasFreeCell tree node
      → IsExactFirst opening.instance opening.gap (λ other. done.table ≡ other) here (IsAgain (move_by done.outcome)) done.outcome
  here_first here there none =
      subst (λ (n : Node). IsExactFirst opening.instance opening.gap (λ other. done.table ≡ other) n (IsAgain (move_by done.outcome)) done.outcome)
      (same_Some path here (sym at ∙ there)) (exact_first done.outcome (keeps.exact (decided tree opening.instance node path size at none)))

-- ---- the book
pub pivoted_opened : (exact_dispatch : Bool) (opening : Opening) → IsPivotedBook exact_dispatch opening (opened opening)
pivoted_opened exact_dispatch opening = grind (arith, ints)

pub pivoted_committed : TreeRunsHold → NeverDecreases → (exact_dispatch exact : Bool) (opening : Opening) (book : BookView) (worker unit node had : ℕ) (path : Node)
    (seen : Option ℤ) (former : ℤ) (done : Evaluated) → IsTrueOpening opening → IsRunning opening book → IsHolding (state_of book) worker unit node
    → MayBe book node path done.table exact done.outcome (move_for seen opening.gap former done) → had ≡ length (entries_of book.log node)
    → IsFirstByDispatch exact_dispatch opening path had seen done → IsPivotedBook exact_dispatch opening book
    → IsPivotedBook exact_dispatch opening (committed book worker unit node done.table exact done.outcome (move_for seen opening.gap former done))
pivoted_committed law never exact_dispatch exact opening book worker unit node had path seen former done begun running holds may count keeps is =
    let m = replayed book running.replays.desks in
    let orderly = (run_holds law opening book begun running.replays).1 in
    let held = holdable m worker (number_of book.claims unit) node orderly (held_still book unit (record { worker = worker; node = node }) holds) in
    let action = move_for seen opening.gap former done in
    let stored = kept (state_of book) node done.table exact done.outcome in
    let free = free_for (λ cost. Unit {0}) (state_of book) node done.table exact done.outcome action may.legal in
    let grows = tree_grows book.tree node stored (length book.tables) exact done.outcome action (sound_of m orderly) held.live free in
    let first = λ (none : entries_of book.log node ≡ []). count ∙ ap (λ (entries : List _). length entries) none in
    record {
      size = record { thermal = is.size.thermal ∙ sym grows.units; periods = is.size.periods ∙ sym grows.periods };
      pivoted = λ asked.
          entries_keep_pivoted opening.instance opening.budget opening.gap book.tree book.tables book.log worker unit node stored done.table exact done.outcome action
          (sound_of m orderly) held.live held.below
          (entries_below book.tree.nodes book.log orderly.placed.are.numbered (entry_nodes opening.instance book.tree book.tables book.log running.log.entries)) free
          (record {
            direct = λ enough cell none.
                splits never opening book.tree node path seen former done begun.gap is.size may.is_node (keeps asked (first none)) enough cell;
            exact = λ here there cell none.
                here_first never opening book.tree node path seen former done begun.gap is.size may.is_node (keeps asked (first none)) here there cell;
          })
          (is.pivoted asked);
    }

-- ---- by what each call answers
pub pivoted_entered : TreeRunsHold → NeverDecreases → (exact_dispatch exact : Bool) (opening : Opening) (book new : BookView) (worker unit node had : ℕ) (path : Node)
    (seen : Option ℤ) (former : ℤ) (done : Evaluated) (action : Move) (result : Bool) → IsTrueOpening opening → IsRunning opening book
    → IsHeldUnit book unit worker node had → action ≡ move_for seen opening.gap former done → IsFirstByDispatch exact_dispatch opening path had seen done
    → IsPivotedBook exact_dispatch opening book → IsCommitAnswer book worker unit path done.table exact done.outcome action new result
    → IsPivotedBook exact_dispatch opening new
pivoted_entered law never exact_dispatch exact opening book new worker unit node had path seen former done action true begun running held same keeps is answer =
    let may = answer.may in
    let own : may.node ≡ node = one_node book worker worker unit may.node node may.holds held.holds in
    let count : had ≡ length (entries_of book.log may.node) = held.count ∙ ap (λ n. length (entries_of book.log n)) (sym own) in
    subst (IsPivotedBook exact_dispatch opening) (sym answer.is)
    (subst (λ (a : Move). MayBe book may.node path done.table exact done.outcome a
    → IsPivotedBook exact_dispatch opening (committed book worker unit may.node done.table exact done.outcome a)) (sym same)
    (λ legal. pivoted_committed law never exact_dispatch exact opening book worker unit may.node had path seen former done begun running may.holds legal count keeps is)
    may.may)
pivoted_entered law never exact_dispatch exact opening book new worker unit node had path seen former done action false begun running held same keeps is answer =
    subst (IsPivotedBook exact_dispatch opening) (sym answer.1) is

pub pivoted_claim : (exact_dispatch : Bool) (opening : Opening) (book new : BookView) (worker node : ℕ) (result : Claimed) → IsPivotedBook exact_dispatch opening book
    → IsClaimAnswer book worker node new result → IsPivotedBook exact_dispatch opening new
pivoted_claim exact_dispatch opening book new worker node Spent is answer = subst (IsPivotedBook exact_dispatch opening) (sym answer.1) is
pivoted_claim exact_dispatch opening book new worker node NotOpen is answer = subst (IsPivotedBook exact_dispatch opening) (sym answer.2) is
pivoted_claim exact_dispatch opening book new worker node (Mine unit had) is answer = grind (arith, ints, unit, had, is, answer)

pub pivoted_abandon : (exact_dispatch : Bool) (opening : Opening) (book new : BookView) (worker unit : ℕ) (result : Bool) → IsPivotedBook exact_dispatch opening book
    → IsAbandonAnswer book worker unit new result → IsPivotedBook exact_dispatch opening new
pivoted_abandon exact_dispatch opening book new worker unit true is answer = grind (arith, ints, is, answer)
pivoted_abandon exact_dispatch opening book new worker unit false is answer = subst (IsPivotedBook exact_dispatch opening) (sym answer.1) is
