-- What the workers and the closing pass leave is what the search leaves.
use Rattle.std.proofs.Common.{◌≡◌, ◌∙◌, true, false, ap, subst, sym, Some}
use Rattle.uc_model.specs.declared.instance.Instance.{Instance}
use Rattle.branch_tree.specs.Prelude.{is_schedule_within}
use Rattle.found_schedule.specs.Found.{IsFoundIfAny}
use Rattle.found_schedule.proofs.Whole.{found_if_accepted}
use Rattle.search_machine.specs.Prelude.{bound_of}
use Rattle.book.specs.Prelude.{Opening}
use Rattle.search_desk.specs.Best.{IsNoWorse, cost_of}
use Rattle.search_desk.specs.Dispatches.{IsPivotedBook}
use Rattle.search_desk.specs.Grown.{IsGrown, IsPivotedGrown}
use Rattle.tree_search.proofs.Beginning.{closed_ended}
use Rattle.search_desk.proofs.Costs.{at_most_itself, at_most_through}
use Rattle.search_desk.proofs.Dispatches.{pivoted_opened}
use Rattle.tree_search.proofs.grow.grown.Goals as goal

pub left-requires-clause-ended : goal.left-requires-clause-ended
left-requires-clause-ended g c =
    let begun = c.args.begun in
    let gap = c.args.options.now.gap in
    let closed = ap (λ it. is_schedule_within it (Some (bound_of begun.start.opening.value begun.start.opening.table.k)) gap) c.into_schedule.ensures
    ∙ sym c.is_closed.ensures ∙ c.if-is_closed.true in
    closed_ended g.C.SearchCase.exact g.C.Case.opening c.args.book begun.worker begun.start.opening c.args.options.now.budget gap c.into_schedule.result
    c.requires.opening c.requires.lawful c.requires.options.budget c.requires.options.gap c.requires.priced c.requires.book closed

pub left-requires-clause-pivoted : goal.left-requires-clause-pivoted
left-requires-clause-pivoted g c =
    subst (IsPivotedBook g.C.SearchCase.exact_dispatch g.C.Case.opening) (sym c.requires.book) (pivoted_opened g.C.SearchCase.exact_dispatch g.C.Case.opening)

pub returns-then-is_closed-clause-pivoted : goal.returns-then-is_closed-clause-pivoted
returns-then-is_closed-clause-pivoted g c =
    subst (λ asked. IsPivotedGrown asked c.args.begun.worker c.args.options.now.budget c.args.options.now.gap c.left.result) c.requires.dispatch
    (c.left.ensures.pivoted c.args.begun.worker c.args.begun.start.opening c.args.options.now.budget c.args.options.now.gap c.requires.opening)

pub returns-clause-pivoted : goal.returns-clause-pivoted
returns-clause-pivoted g c =
    subst (λ asked. IsPivotedGrown asked c.args.begun.worker c.args.options.now.budget c.args.options.now.gap c.left-2.result) c.requires.dispatch
    (c.left-2.ensures.pivoted c.args.begun.worker c.args.begun.start.opening c.args.options.now.budget c.args.options.now.gap c.requires.opening)

pub returns-then-is_closed-clause-grown : goal.returns-then-is_closed-clause-grown
returns-then-is_closed-clause-grown g c =
    subst (λ exact. IsGrown exact c.args.begun.worker c.args.begun.start.opening c.args.options.now.budget c.args.options.now.gap c.left.result)
    c.requires.kind
    (c.left.ensures.grown c.args.begun.worker c.args.begun.start.opening c.args.options.now.budget c.args.options.now.gap c.requires.opening)

pub returns-then-is_closed-clause-found : goal.returns-then-is_closed-clause-found
returns-then-is_closed-clause-found g c =
    let over = c.args.options.now.pivot in
    subst (IsFoundIfAny over c.args.begun.worker) (sym (c.left.ensures.best ∙ c.into_schedule.ensures))
    (found_if_accepted over c.args.begun.worker c.args.begun.start.best c.requires.accepted)

pub returns-then-is_closed-clause-no_worse : goal.returns-then-is_closed-clause-no_worse
returns-then-is_closed-clause-no_worse g c =
    let first = c.args.begun.start.best in
    subst (IsNoWorse first) (sym (c.left.ensures.best ∙ c.into_schedule.ensures)) (at_most_itself (cost_of first))

pub returns-clause-grown : goal.returns-clause-grown
returns-clause-grown g c =
    subst (λ exact. IsGrown exact c.args.begun.worker c.args.begun.start.opening c.args.options.now.budget c.args.options.now.gap c.left-2.result)
    c.requires.kind
    (c.left-2.ensures.grown c.args.begun.worker c.args.begun.start.opening c.args.options.now.budget c.args.options.now.gap c.requires.opening)

pub returns-clause-found : goal.returns-clause-found
returns-clause-found g c =
    subst (IsFoundIfAny c.args.options.now.pivot c.args.begun.worker) (sym c.left-2.ensures.best)
    (subst (λ over. IsFoundIfAny over c.args.begun.worker c.in_ok-book.schedule) c.requires.dispatch
    (subst (λ (i : Instance). IsFoundIfAny g.C.SearchCase.exact_dispatch i c.in_ok-book.schedule) (ap (λ (o : Opening). o.instance) c.requires.opening)
    c.in_ok-book.ensures.found))

pub returns-clause-no_worse : goal.returns-clause-no_worse
returns-clause-no_worse g c =
    let first = c.args.begun.start.best in
    subst (IsNoWorse first) (sym c.left-2.ensures.best)
    (at_most_through (cost_of c.in_ok-book.schedule) (cost_of c.into_crew.result.own.schedule) (cost_of first) c.in_ok-book.ensures.no_worse
    c.into_crew.ensures.no_worse)

pub returns-clause-quiet : goal.returns-clause-quiet
returns-clause-quiet g c = λ closed.
    let differ : true ≡ false = sym closed ∙ sym c.is_closed.ensures ∙ c.if-is_closed.false in
    absurd (cc)
