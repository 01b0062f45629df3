-- The units before this one have entered in the place of the base's.
use Rattle.decommitment.specs.inside.Fills.{AreEntered, base_parts, hour_period}
use Rattle.decommitment.proofs.entry.renew_stretch.Given as goal

abbrev pub invariant-loop-g : goal.invariant-loop-g
invariant-loop-g l =
    AreEntered (hour_period l.system l.hour) l.system.merit.now.order.items (base_parts l.system l.hour l.base) l.g l.base.fill.now l.fill
