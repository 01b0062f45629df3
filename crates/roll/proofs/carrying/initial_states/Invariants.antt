-- The states so far.
use Rattle.roll.specs.inside.Rows.{AreInitialStates}
use Rattle.roll.proofs.carrying.initial_states.Given as goal

abbrev pub invariant-loop-g : goal.invariant-loop-g
invariant-loop-g l = AreInitialStates l.units l.g l.states.items
