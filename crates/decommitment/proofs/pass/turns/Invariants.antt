-- The turns of the units before the place were taken.
use Rattle.decommitment.specs.inside.Runs.{IsRunPass, instance_of, order_of}
use Rattle.decommitment.proofs.pass.turns.Given as goal

abbrev pub invariant-loop-g : goal.invariant-loop-g
invariant-loop-g l = IsRunPass (instance_of l.setting) (order_of l.setting) l.setting.start.now l.g l.pass
