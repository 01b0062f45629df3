-- The root's leaf has the ray.
use Rattle.std.proofs.Common.{subst, sym, IfOk}
use Rattle.decommitment.specs.Standings.{IsDropped}
use Rattle.uc_model.specs.declared.instance.Instance.{Instance}
use Rattle.search_answers.specs.Answers.{IsAnswerOf}
use Rattle.search_answers.proofs.answer.excluded.Goals as goal

pub returns-in-Ok-Some-clause-answer : goal.returns-in-Ok-Some-clause-answer
returns-in-Ok-Some-clause-answer c = λ exact_dispatch budget gap stands dropped.
    let own = c.instance-instance.ensures.is in
    subst (λ (instance : Instance). IfOk c.without_schedule.result (IsAnswerOf c.args.exact exact_dispatch instance budget gap)) own
    (c.without_schedule.ensures exact_dispatch budget gap stands (subst (λ (instance : Instance). IsDropped instance stands) (sym own) dropped))
