-- The states so far.
use Rattle.roll.specs.inside.Rows.{AreStatesBehind}
use Rattle.roll.proofs.carrying.states_behind.Given as goal

abbrev pub invariant-loop-g : goal.invariant-loop-g
invariant-loop-g l = AreStatesBehind l.units l.rows l.end l.g l.states.items
