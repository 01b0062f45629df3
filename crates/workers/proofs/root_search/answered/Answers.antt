-- The worker stays the instance's.
use Rattle.std.proofs.Common.{◌∙◌, subst, sym, IfOk, MatchOption}
use Rattle.dual_model.specs.Prelude.{IsFirstEmpty, HasEachPattern, root}
use Rattle.workers.proofs.root_search.answered.Goals as goal

pub patterned-requires-clause-patterns : goal.patterned-requires-clause-patterns
patterned-requires-clause-patterns g c = λ lifetimes within.
    let instance = c.args.worker in
    let told = subst (λ made. IfOk made (λ empty. MatchOption empty (HasEachPattern instance) (IsFirstEmpty instance root))) c.in_ok-worker.ensures.made
    c.first_empty-empty.ensures.empty in
    subst HasEachPattern (sym (c.in_ok-worker.ensures.value ∙ c.first_empty-empty.ensures.kept))
    (subst (λ empty. MatchOption empty (HasEachPattern instance) (IsFirstEmpty instance root)) c.in-None.is told)
