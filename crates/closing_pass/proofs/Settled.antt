-- A claim that is still held may be committed at the table that the closing pass takes.
use Rattle.std.proofs.Common.{◌≡◌, ◌≢◌, ◌∙◌, ℕ, ◌+◌, ◌<◌, Bool, All, List, [], ◌∷◌, drop, length, ap, sym, subst, arith, ℤ, Option, Some, slice_get}
use Rattle.std.proofs.lemmas.Int.{ints}
use Rattle.std.proofs.lemmas.List.{nil_from_length}
use Rattle.std.proofs.lemmas.List.Elements.{All-nil, All-cons}
use Rattle.uc_model.specs.declared.schedule.Printed.{Printed}
use Rattle.uc_model.proofs.Common.{linear}
use Rattle.dual_model.specs.declared.node.Node.{Node}
use Rattle.branch_tree.specs.Prelude.{node_at}
use Rattle.branch_tree.specs.declared.found.Entry.{Entry}
use Rattle.branch_tree.specs.declared.found.Outcome.{Outcome}
use Rattle.search_machine.specs.Prelude.{Machine, entries_of, stored_at, IsMoveLegal, IsFresh, TreeRunsHold}
use Rattle.search_machine.specs.declared.event.Move.{Move}
use Rattle.search_machine.proofs.TrueSteps.{NeverDecreases}
use Rattle.book.specs.Prelude.{BookView, state_of, IsCommitted, IsHeldUnit, IsStoredAt, MayCommit, Opening, IsRunning}
use Rattle.opening.specs.Outcomes.{IsSized}
use Rattle.closing_pass.specs.inside.Tables.{Instance, IsNewScale, IsTrialAt, Settling, Table, Trial}
use Rattle.closing_pass.specs.Closings.{IsLeft}
use Rattle.search_desk.specs.Best.{IsNoWorse, cost_of}
use Rattle.search_desk.specs.Desks.{IsPrunedBy, IsScaledEntry}
use Rattle.search_desk.proofs.Claimed.{later_of, one_node}
use Rattle.search_desk.proofs.Kept.{kept_committed, kept_lower, kept_wider, stay_committed}

-- ---- a table that no entry is at
abbrev IsElsewhere : Machine → Table → Bool → Entry → Type 0
IsElsewhere m table exact entry = entry.exact ≡ exact → slice_get m.tables entry.table ≢ Some table

-- no later entry has so great a scale
later_fresh : (m : Machine) (limit scale : ℕ) (entries : List Entry) (table : Table) (exact : Bool) → limit < scale → IsNewScale scale table
    → All (IsScaledEntry limit m.tables) entries → All (IsElsewhere m table exact) entries
later_fresh m limit scale entries table exact below new later i d within kind is =
    let old = later i d within table is in
    absurd (omega (arith, ints, linear, old, new, below))

-- where the first entry has one of two scales, it hasn't the other
pub fresh_second : (m : Machine) (limit : ℕ) (entries : List Entry) (one two : Table) (exact : Bool) → IsNewScale (limit + 1) one
    → IsNewScale (limit + 2) two → All (IsScaledEntry limit m.tables) (drop 1 entries) → (IsFresh m entries one exact → ⊥) → IsFresh m entries two exact
fresh_second m limit [] one two exact first second later stale = All-nil (IsElsewhere m two exact)
fresh_second m limit (entry ∷ entries) one two exact first second later stale =
    All-cons (IsElsewhere m two exact) entry entries
    (λ kind is. stale (All-cons (IsElsewhere m one exact) entry entries
    (λ kind2 is2.
    let both : Some two ≡ Some one = sym is ∙ is2 in
    let same : two ≡ one = cc in
    let scales = ap (λ (t : Table). t.k) same in
    absurd (omega (arith, ints, linear, scales, first, second)))
    (later_fresh m limit (limit + 1) entries one exact (omega arith) first later)))
    (later_fresh m limit (limit + 2) entries two exact (omega arith) second later)

-- ---- the commit
module _ (exact exact_dispatch : Bool) (instance : Instance) (opening : Opening) (book : BookView) (settling : Settling) (trial : Trial) (path : Node) (stored : Table)
    (bound : ℤ) (outcome : Outcome) (action : Move) (held : IsHeldUnit book settling.held.unit settling.held.worker settling.held.node settling.held.had)
    (at : IsStoredAt book settling.held.unit path stored bound) (is : IsTrialAt exact exact_dispatch instance book settling trial) where
  pub same : at.number ≡ settling.held.node
  same = one_node book at.worker settling.held.worker settling.held.unit at.number settling.held.node at.holds held.holds

  pub bound_is : bound ≡ (stored_at book.tree settling.held.node).value
  bound_is = subst (λ n. bound ≡ (stored_at book.tree n).value) same at.is_value

  pub settle_may : IsMoveLegal (λ cost. Unit {0}) (state_of book) settling.held.node trial.table exact outcome action
      → MayCommit book settling.held.worker settling.held.unit path trial.table exact outcome action
  settle_may legal = record {
    node = settling.held.node;
    holds = held.holds;
    may = record {
      is_node = subst (λ n. node_at book.tree.nodes n ≡ Some path) same at.is_node;
      fresh = is.fresh;
      first = is.first;
      legal = legal;
    };
  }

  pub settle_left : TreeRunsHold → NeverDecreases → (best new_best : Option (Printed × ℤ)) → IsNoWorse best new_best
      → IsLeft exact opening book (cost_of best) settling.scale → (new : BookView) → IsRunning opening book → IsSized outcome
      → IsPrunedBy (cost_of new_best) action
      → IsCommitted book settling.held.worker settling.held.unit path trial.table exact outcome action new
      → IsLeft exact opening new (cost_of new_best) trial.used
  settle_left law never best new_best no_worse left new running sized by done =
      let may = done.may in
      let kept = kept_lower never exact opening book (cost_of best) (cost_of new_best) trial.used no_worse
      (kept_wider exact opening book (cost_of best) settling.scale trial.used is.from left.kept) in
      subst (λ (b : BookView). IsLeft exact opening b (cost_of new_best) trial.used) (sym done.is) (record {
        kept = kept_committed law exact opening book (cost_of new_best) trial.used settling.held.worker settling.held.unit may.node path trial.table outcome action
            running may.holds may.may sized
            (later_of book trial.used settling.held.worker settling.held.unit settling.held.node settling.held.had settling.held.worker may.node trial.table held
            is.later may.holds) by kept;
        complete = stay_committed exact book settling.held.worker settling.held.unit may.node trial.table outcome action may.holds left.complete;
      })

pub no_entry : (book : BookView) (had node : ℕ) → had ≡ length (entries_of book.log node) → had ≡ 0 → entries_of book.log node ≡ []
no_entry book had node count none = nil_from_length (entries_of book.log node) (sym count ∙ none)
