-- What a search lets out: a schedule that the check accepts, with its cost. This project's own form.
use Rattle.std.specs.Prelude.{◌≡◌, ◌≤◌, ℤ, IfSome, Option, unsigned_abs}
use Rattle.uc_model.specs.Prelude.{HasShapeOf, printed_denominator, printed_schedule, printed_cost, Obeys}
use Rattle.uc_model.specs.declared.instance.Instance.{Instance}
use Rattle.uc_model.specs.declared.limits.TheConstants.{COST_MAX}
use Rattle.schedule_check.specs.PlainNumbers.{Printed, HasPlainNumbers}

-- a schedule of the instance that obeys, in whole watts, with its printed cost, and numbers within their limits
pub record IsAccepted (instance : Instance) (printed : Printed) (cost : ℤ) : Type 0 where
  pub shape : HasShapeOf instance printed
  pub obeys :
      let q = printed_denominator instance printed in
      Obeys instance q (printed_schedule instance printed q)
  pub cost_is : cost ≡ printed_cost instance printed
  pub whole : printed.denominator ≡ 1
  pub numbers : HasPlainNumbers printed
  pub size : unsigned_abs cost ≤ COST_MAX

-- a schedule that may be missing
abbrev pub IsAcceptedIfFound : Instance → Option (Printed × ℤ) → Type 0
IsAcceptedIfFound instance found = IfSome found (λ pair. IsAccepted instance pair.0 pair.1)
