-- Why a search found no schedule: the most-on commitment, in which each thermal unit has its allowed pattern with the most on
-- periods, gets stuck. This project's own.
use Rattle.std.specs.Prelude.{◌≡◌, List, ℤ, Option, Some, None}
use Rattle.uc_model.specs.declared.instance.Instance.{Instance}
use Rattle.uc_model.specs.declared.pattern.Pattern.{Pattern}
use Rattle.uc_model.specs.declared.schedule.Printed.{Printed}
use Rattle.uc_model.specs.declared.stuck.Stuck.{Stuck}
use Rattle.dispatch_repair.specs.Prelude.{AreMostOn, IsStuckOf}

-- the most-on commitment gets stuck, here and for this reason
pub record IsMostOnStuck (instance : Instance) (stuck : Stuck) : Type 0 where
  pub patterns : List Pattern
  pub most_on : AreMostOn instance patterns
  pub stuck_by : IsStuckOf instance patterns stuck

-- what is told of the most-on commitment, by the schedule and the bound: that it is stuck, where there is a bound and no schedule;
-- else nothing
abbrev pub TellsMostOn : Instance → Option (Printed × ℤ) → Option ℤ → Option Stuck → Type 0
TellsMostOn instance None (Some bound) (Some stuck) = IsMostOnStuck instance stuck
TellsMostOn instance None (Some bound) None = ⊥
TellsMostOn instance None None told = told ≡ None
TellsMostOn instance (Some priced) bound told = told ≡ None
