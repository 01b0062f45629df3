-- Rule by rule.
use Rattle.roll.proofs.JoinedWhole.{stitched_obeys}
use Rattle.roll.proofs.laws.stitched_schedules_obey.Goals as goal

pub returns : goal.returns
returns c = stitched_obeys
