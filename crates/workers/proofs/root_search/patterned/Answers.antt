-- The worker stays the instance's.
use Rattle.std.proofs.Common.{◌∙◌, subst, sym, IfOk, MatchOption}
use Rattle.dual_model.specs.Prelude.{HasEachPattern, root, IsFirstBlocked}
use Rattle.opening.specs.Blocked.{HasNoBlockedUnit}
use Rattle.uc_model.specs.declared.instance.Instance.{Instance}
use Rattle.search_answers.specs.Answers.{IsAnswerOf}
use Rattle.workers.proofs.root_search.patterned.Goals as goal

pub without_unit-requires-clause-patterns : goal.without_unit-requires-clause-patterns
without_unit-requires-clause-patterns g c = λ exact.
    subst HasEachPattern (sym (c.instance-instance.ensures.is ∙ c.in_ok-worker.ensures.value ∙ c.first_unscheduled-unscheduled.ensures.kept)) c.requires.patterns

pub searched-requires-clause-patterns : goal.searched-requires-clause-patterns
searched-requires-clause-patterns g c = λ lifetimes within.
    subst HasEachPattern (sym (c.in_ok-worker.ensures.value ∙ c.first_unscheduled-unscheduled.ensures.kept)) c.requires.patterns

pub searched-requires-clause-unblocked : goal.searched-requires-clause-unblocked
searched-requires-clause-unblocked g c = λ lifetimes within.
    let instance = c.args.worker in
    let exact = c.args.options.now.exact_units in
    let told = subst (λ made. IfOk made (λ unit. MatchOption unit (HasNoBlockedUnit exact instance) (IsFirstBlocked exact instance root))) c.in_ok-worker.ensures.made
    c.first_unscheduled-unscheduled.ensures.unscheduled in
    subst (HasNoBlockedUnit exact) (sym (c.in_ok-worker.ensures.value ∙ c.first_unscheduled-unscheduled.ensures.kept))
    (subst (λ unit. MatchOption unit (HasNoBlockedUnit exact instance) (IsFirstBlocked exact instance root)) c.in-None.is told)

pub returns-in-Some : goal.returns-in-Some
returns-in-Some g c =
    let exact = c.args.options.now.exact_units in
    let pivot = c.args.options.now.pivot in
    let budget = c.args.options.now.budget in
    let gap = c.args.options.now.gap in
    let own = c.instance-instance.ensures.is ∙ c.in_ok-worker.ensures.value ∙ c.first_unscheduled-unscheduled.ensures.kept in
    subst (λ (instance : Instance). IfOk c.without_unit.result (IsAnswerOf exact pivot instance budget gap)) own
    (c.without_unit.ensures exact pivot budget gap (λ is. is))
