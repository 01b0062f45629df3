-- Each of the two is accepted.
use Rattle.std.proofs.Common.{sym, subst, ℤ}
use Rattle.uc_model.specs.declared.schedule.Printed.{Printed}
use Rattle.schedule_check.specs.Accepted.{IsAccepted, IsAcceptedIfFound}
use Rattle.schedule_repair.proofs.descent.cheaper.Goals.{then-second-first, else-second-first}
use Rattle.schedule_repair.proofs.descent.cheaper.Goals as goal

pub returns-after-second-first : goal.returns-after-second-first
returns-after-second-first c = λ instance one other.
    let accepted = λ (pair : Printed × ℤ). IsAccepted instance pair.0 pair.1 in
    elim c.if-second-first.branch [
      | then-second-first w ↦ subst accepted (sym w.result-is) (subst (IsAcceptedIfFound instance) c.in-Some-Some.is-1 other)
      | else-second-first w ↦ subst accepted (sym w.result-is) (subst (IsAcceptedIfFound instance) c.in-Some-Some.is-0 one)
    ]
