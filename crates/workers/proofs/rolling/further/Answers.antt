-- What is kept is what it was beside the search.
use Rattle.std.proofs.Common.{subst, IfOk}
use Rattle.workers.specs.declared.rolling.Kept.{Kept}
use Rattle.workers.specs.inside.Rolls.{IsStep}
use Rattle.workers.proofs.rolling.further.Goals as goal

pub returns-in-Some : goal.returns-in-Some
returns-in-Some g c =
    subst (λ (kept : Kept). IfOk c.further_with.result (IsStep c.args.plan kept.done)) c.in_ok-kept.ensures.value
    (c.further_with.ensures c.args.plan c.in_ok-kept.kept.done c.in-Some.ensures.more)
