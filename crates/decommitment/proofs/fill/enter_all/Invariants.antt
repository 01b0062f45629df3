-- The units so far have entered.
use Rattle.decommitment.specs.inside.Fills.{AreEntered, hour_period, no_part}
use Rattle.decommitment.proofs.fill.enter_all.Given as goal

abbrev pub invariant-loop-g : goal.invariant-loop-g
invariant-loop-g l = AreEntered (hour_period l.system l.hour) l.system.merit.now.order.items (λ g. no_part) l.g l.initial.fill l.fill
