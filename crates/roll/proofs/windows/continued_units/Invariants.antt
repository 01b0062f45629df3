-- The units so far.
use Rattle.roll.specs.inside.Units.{AreContinued}
use Rattle.roll.proofs.windows.continued_units.Given as goal

abbrev pub invariant-loop-g : goal.invariant-loop-g
invariant-loop-g l = AreContinued l.units l.states l.g l.continued.items
