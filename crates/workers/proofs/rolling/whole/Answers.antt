-- What is kept is of all periods.
use Rattle.std.proofs.Common.{arith, subst, sym}
use Rattle.schedule_check.specs.Accepted.{IsAccepted}
use Rattle.uc_model.specs.declared.limits.TheConstants.{COST_MAX}
use Rattle.uc_model.proofs.Common.{narrow}
use Rattle.roll.proofs.SoFar.{whole}
use Rattle.workers.specs.inside.Rolls.{MayFind}
use Rattle.workers.proofs.rolling.whole.Goals as goal

pub returns : goal.returns
returns c =
    let plan = c.args.plan in
    let kept = c.args.kept in
    let same = narrow c.whole_cost.result COST_MAX c.whole_cost.ensures.size (omega arith) in
    whole (MayFind plan) plan.instance.now plan.window plan.step kept.done kept.windows kept.schedule _ c.requires.kept
    (omega (arith, c.requires.all, c.requires.kept.kept.within))
    (subst (IsAccepted plan.instance.now kept.schedule) (sym same) c.whole_cost.ensures)
