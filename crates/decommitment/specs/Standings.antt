-- How the best commitment of the drop pass stands.
use Rattle.std.specs.Prelude.{List}
use Rattle.schedule_check.specs.Accepted.{IsAccepted}
use Rattle.decommitment.specs.DropCommitment.{Instance, Pattern, Ending, Dispatched, StuckIn, IsDropCommitment}
use Rattle.decommitment.specs.MostOnStuck.{IsMostOnStuck}
use Rattle.decommitment.specs.declared.pass.Standing.{Standing}
use Rattle.decommitment.specs.declared.pass.Standing.TheVariants as standing

-- how it ended
abbrev pub ending_of : Standing → Ending
ending_of (standing.Dispatched printed cost) = Dispatched printed cost
ending_of (standing.Stuck period most_on) = StuckIn period

-- what an ending with a schedule has to be
abbrev pub IsAcceptedEnding : Instance → Ending → Type 0
IsAcceptedEnding instance (Dispatched printed cost) = IsAccepted instance printed cost
IsAcceptedEnding instance (StuckIn t) = Unit {0}

-- where the best commitment is stuck, so is the most-on commitment
abbrev pub KeepsMostOn : Instance → Standing → Type 0
KeepsMostOn instance (standing.Dispatched printed cost) = Unit {0}
KeepsMostOn instance (standing.Stuck period most_on) = IsMostOnStuck instance most_on

-- how the drop commitment stands
pub record IsDropped (instance : Instance) (standing : Standing) : Type 0 where
  pub patterns : List Pattern
  pub drop : IsDropCommitment instance patterns (ending_of standing)
  pub accepted : IsAcceptedEnding instance (ending_of standing)
  pub most_on : KeepsMostOn instance standing
