-- The worker stays the instance's; the opening's ray excludes the root.
use Rattle.std.proofs.Common.{◌∙◌, subst, sym, IfOk}
use Rattle.dual_model.specs.Prelude.{HasEachPattern}
use Rattle.decommitment.specs.Standings.{IsDropped}
use Rattle.opening.specs.Blocked.{HasNoBlockedUnit}
use Rattle.uc_model.specs.declared.instance.Instance.{Instance}
use Rattle.search_answers.specs.Answers.{IsAnswerOf}
use Rattle.search_answers.specs.Starts.{IsOpened}
use Rattle.workers.proofs.root_search.searched.Goals as goal

pub excluded-requires-clause-patterns : goal.excluded-requires-clause-patterns
excluded-requires-clause-patterns g c =
    subst HasEachPattern (sym (c.in_ok-worker.ensures.value ∙ c.started-opened.ensures.kept)) c.requires.patterns

pub excluded-requires-clause-unblocked : goal.excluded-requires-clause-unblocked
excluded-requires-clause-unblocked g c =
    subst (HasNoBlockedUnit c.args.options.now.exact_units) (sym (c.in_ok-worker.ensures.value ∙ c.started-opened.ensures.kept)) c.requires.unblocked

pub claimed-requires-clause-unblocked : goal.claimed-requires-clause-unblocked
claimed-requires-clause-unblocked g c = λ lifetimes within.
    subst (HasNoBlockedUnit c.args.options.now.exact_units) (sym (c.excluded.ensures.kept ∙ c.in_ok-worker.ensures.value ∙ c.started-opened.ensures.kept))
    c.requires.unblocked

pub claimed-requires-clause-patterns : goal.claimed-requires-clause-patterns
claimed-requires-clause-patterns g c = λ lifetimes within.
    subst HasEachPattern (sym (c.excluded.ensures.kept ∙ c.in_ok-worker.ensures.value ∙ c.started-opened.ensures.kept)) c.requires.patterns

pub returns-in-Some : goal.returns-in-Some
returns-in-Some g c =
    let budget = c.args.options.now.budget in
    let gap = c.args.options.now.gap in
    let own = c.in_ok-worker.ensures.value ∙ c.started-opened.ensures.kept in
    let opened = subst (λ made. IfOk made (IsOpened c.args.worker)) c.in_ok-worker.ensures.made c.started-opened.ensures.opened in
    let dropped = subst (λ (instance : Instance). IsDropped instance opened.standing) (sym own) opened.dropped in
    subst (λ (instance : Instance). IfOk c.in-Some.answer (IsAnswerOf c.args.options.now.exact_units c.args.options.now.pivot instance budget gap)) own
    (c.in-Some.ensures.answer c.args.options.now.pivot budget gap opened.standing dropped)
