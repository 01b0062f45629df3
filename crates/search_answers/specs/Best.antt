-- The best schedule so far beside the drop commitment's, and what is told of the most-on commitment. This project's own form.
use Rattle.std.specs.Prelude.{Bool, ℤ, Option, Some, None}
use Rattle.uc_model.specs.declared.instance.Instance.{Instance}
use Rattle.uc_model.specs.declared.schedule.Printed.{Printed}
use Rattle.uc_model.specs.declared.stuck.Stuck.{Stuck}
use Rattle.found_schedule.specs.Found.{IsFoundIfAny}
use Rattle.decommitment.specs.DropCommitment.{Ending}
pub use Rattle.decommitment.specs.declared.pass.Standing.{Standing}
use Rattle.decommitment.specs.declared.pass.Standing.TheVariants as standing
use Rattle.search_answers.specs.SearchResult.{IsNoDearer}

-- why the most-on commitment is stuck, where the best one is
abbrev pub kept_stuck : Standing → Option Stuck
kept_stuck (standing.Dispatched printed cost) = None
kept_stuck (standing.Stuck period most_on) = Some most_on

-- a schedule to let out, if there is one, and costs no more than the drop commitment's
pub record IsBest (exact_dispatch : Bool) (instance : Instance) (ending : Ending) (best : Option (Printed × ℤ)) : Type 0 where
  pub found : IsFoundIfAny exact_dispatch instance best
  pub no_dearer : IsNoDearer best ending

-- what is told of the most-on commitment: nothing where there is a schedule
abbrev pub told_of : Option (Printed × ℤ) → Option Stuck → Option Stuck
told_of None stuck = stuck
told_of (Some priced) stuck = None
