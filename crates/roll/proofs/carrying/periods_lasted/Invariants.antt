-- The state in the period before t has lasted so long.
use Rattle.schedule_check.specs.WholeWatts.{commitment}
use Rattle.roll.specs.Prelude.{HasLasted}
use Rattle.roll.proofs.carrying.periods_lasted.Given as goal

abbrev pub invariant-loop-t : goal.invariant-loop-t
invariant-loop-t l = HasLasted (commitment l.row) l.t l.lasted
