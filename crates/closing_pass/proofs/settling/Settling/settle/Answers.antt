-- The claim that is held may be committed so.
use Rattle.std.proofs.Common.{◌≡◌, ◌∙◌, ◌<◌, FitsSigned, rules, subst, sym, true, ℤ}
use Rattle.std.specs.Int.{w128}
use Rattle.std.proofs.lemmas.Int.{to_z-of_z}
use Rattle.dual_model.specs.Prelude.{IsNodeOf}
use Rattle.branch_tree.specs.Prelude.{node_count, IsNodeAt, HasFreeCell, IsOutcome}
use Rattle.book.specs.Prelude.{BookView, IsCommitted, IsStoredAt, MayCommit}
use Rattle.uc_model.specs.declared.instance.Instance.{Instance}
use Rattle.search_desk.specs.Best.{cost_of}
use Rattle.search_desk.specs.Commits.{move_for}
use Rattle.search_desk.specs.Dispatches.{IsFirstByDispatch}
use Rattle.search_desk.specs.declared.desk.Evaluated.{Evaluated}
use Rattle.search_desk.proofs.Claimed.{held_below, node_of, one_node, stored_lawful}
use Rattle.search_desk.proofs.Dispatches.{by_dispatch, by_dispatch-lower, decided, pivoted_entered}
use Rattle.closing_pass.specs.Closings.{IsLeft}
use Rattle.closing_pass.proofs.Settled.{settle_left, settle_may}
use Rattle.closing_pass.proofs.settling.Settling.settle.Goals as goal

pub trial-requires-clause-within : goal.trial-requires-clause-within
trial-requires-clause-within g c =
    held_below c.tree_runs_hold.ensures g.C.Case.opening c.args.progress.now.book c.args.self.now.held.worker c.args.self.now.held.unit c.args.self.now.held.node
    c.requires.left.kept.begun c.keeps_run.ensures c.requires.held.holds

pub trial-requires-clause-holding : goal.trial-requires-clause-holding
trial-requires-clause-holding g c =
    let book = c.args.progress.now.book in
    let unit = c.args.self.now.held.unit in
    let is = c.in_ok-path.ensures in
    let fits : FitsSigned w128 c.in_ok-path.bound = search rules in
    record {
      lawful = c.requires.left.kept.begun.instance;
      path = node_of g.C.Case.opening book is.number c.in_ok-path.path c.keeps_run.ensures is.is_node;
      table = stored_lawful g.C.Case.opening book unit c.in_ok-path.path c.in_ok-path.stored c.in_ok-path.bound c.keeps_run.ensures is;
      stored = subst (λ (z : ℤ). IsStoredAt book unit c.in_ok-path.path c.in_ok-path.stored z) (sym (to_z-of_z w128 c.in_ok-path.bound fits)) is;
    }

pub outcome-requires-clause-path : goal.outcome-requires-clause-path
outcome-requires-clause-path g c =
    let is = c.in_ok-path.ensures in
    subst (λ (i : Instance). IsNodeOf i c.in_ok-path.path) (sym c.requires.instance)
    (node_of g.C.Case.opening c.args.progress.now.book is.number c.in_ok-path.path c.keeps_run.ensures is.is_node)

pub split_cell-requires-clause-within : goal.split_cell-requires-clause-within
split_cell-requires-clause-within g c =
    subst (λ (b : BookView). c.args.self.now.held.node < node_count b.tree.nodes) (sym c.offer.ensures.book)
    (held_below c.tree_runs_hold.ensures g.C.Case.opening c.args.progress.now.book c.args.self.now.held.worker c.args.self.now.held.unit c.args.self.now.held.node
    c.requires.left.kept.begun c.keeps_run.ensures c.requires.held.holds)

pub enter-requires-clause-may : goal.enter-requires-clause-may
enter-requires-clause-may g c =
    let self = c.args.self.now in
    let old = c.args.progress.now.book in
    let book = c.offer.ensures.book in
    subst (λ (b : BookView). MayCommit b self.held.worker self.held.unit c.in_ok-path.path c.in_ok-table.field-0.table self.closing.exact c.in_ok-outcome.outcome
    c.action-action.result) (sym book)
    (settle_may self.closing.exact g.C.SearchCase.exact_dispatch g.C.Case.opening.instance g.C.Case.opening old self c.in_ok-table.field-0 c.in_ok-path.path c.in_ok-path.stored
    c.in_ok-path.bound c.in_ok-outcome.outcome c.action-action.result c.requires.held c.in_ok-path.ensures c.in_ok-table.ensures.is
    (rw (sym book) (c.action-action.ensures.legal self.closing.exact)))

pub returns-clause-left : goal.returns-clause-left
returns-clause-left g c =
    let self = c.args.self.now in
    let opening = g.C.Case.opening in
    let old = c.args.progress.now.book in
    let book = c.offer.ensures.book in
    let best = c.offer.new.self.best in
    subst (λ exact. IsLeft exact opening c.enter.new.book (cost_of best) c.in_ok-table.field-0.used) c.requires.kind
    (settle_left self.closing.exact g.C.SearchCase.exact_dispatch opening.instance opening old self c.in_ok-table.field-0 c.in_ok-path.path c.in_ok-path.stored
    c.in_ok-path.bound c.in_ok-outcome.outcome c.action-action.result c.requires.held c.in_ok-path.ensures c.in_ok-table.ensures.is
    c.tree_runs_hold.ensures c.cost_less_tolerance_never_decreases.ensures c.args.progress.now.best best c.offer.ensures.no_worse
    (subst (λ exact. IsLeft exact opening old (cost_of c.args.progress.now.best) self.scale) (sym c.requires.kind) c.requires.left)
    c.enter.new.book c.keeps_run.ensures c.in_ok-outcome.ensures.sized c.action-action.ensures.pruned
    (subst (λ (b : BookView). IsCommitted b self.held.worker self.held.unit c.in_ok-path.path c.in_ok-table.field-0.table self.closing.exact c.in_ok-outcome.outcome
    c.action-action.result c.enter.new.book) book c.enter.ensures))

pub returns-clause-pivoted : goal.returns-clause-pivoted
returns-clause-pivoted g c =
    let self = c.args.self.now in
    let opening = g.C.Case.opening in
    let asked = g.C.SearchCase.exact_dispatch in
    let old = c.args.progress.now.book in
    let best = cost_of c.offer.new.self.best in
    let path = c.in_ok-path.path in
    let trial = c.in_ok-table.field-0 in
    let bound = c.in_ok-path.bound in
    let fits : FitsSigned w128 bound = search rules in
    let done : Evaluated = record { table = trial.table; outcome = c.in_ok-outcome.outcome; cell = c.split_cell.result } in
    let holding = c.in_ok-path.ensures in
    let at : IsNodeAt old.tree self.held.node path =
    subst (λ n. IsNodeAt old.tree n path)
    (one_node old holding.worker self.held.worker self.held.unit holding.number self.held.node holding.holds c.requires.held.holds) holding.is_node in
    let action : c.action-action.result ≡ move_for best opening.gap bound done =
    c.action-action.ensures.is
    ∙ (λ i. move_for best ((c.requires.gap) i) ((to_z-of_z w128 bound fits) i) done) in
    let keeps : IsFirstByDispatch asked opening path self.held.had best done = λ dispatch none.
    record {
      direct = λ enough no_cell.
          decided old.tree opening.instance self.held.node path c.requires.pivoted.size at
          (subst (λ (b : BookView). ¬ HasFreeCell b.tree self.held.node) c.offer.ensures.book
          (c.split_cell.ensures.exhaustive (c.requires.exhaustive dispatch enough) no_cell));
      exact = λ each.
          by_dispatch-lower opening.instance path (cost_of trial.found) best trial.table done.outcome c.offer.ensures.lower
          (by_dispatch self.closing.exact opening.instance path (record { table = trial.table; schedule = trial.found }) done.outcome
          (record {
            lawful = c.in_ok-table.ensures.is.lawful;
            told = subst (λ (i : Instance). IsOutcome self.closing.exact i path trial.table done.outcome) c.requires.instance c.in_ok-outcome.ensures.told;
          })
          (c.in_ok-table.ensures.dispatched dispatch none each));
    } in
    pivoted_entered c.tree_runs_hold.ensures c.cost_less_tolerance_never_decreases.ensures asked self.closing.exact opening old c.enter.new.book
    self.held.worker self.held.unit self.held.node self.held.had path best bound done c.action-action.result true c.requires.left.kept.begun c.keeps_run.ensures
    c.requires.held action keeps c.requires.pivoted
    (subst (λ (b : BookView). IsCommitted b self.held.worker self.held.unit path trial.table self.closing.exact c.in_ok-outcome.outcome
    c.action-action.result c.enter.new.book) c.offer.ensures.book c.enter.ensures)
