-- The units so far have entered in the place of the base's.
use Rattle.std.proofs.Common.{◌-◌, ◌≤◌}
use Rattle.decommitment.specs.inside.Fills.{AreEntered, base_parts, hour_period}
use Rattle.decommitment.proofs.fill.renew_all.Given as goal

abbrev pub invariant-loop-done : goal.invariant-loop-done
invariant-loop-done l = record {
  within : l.done ≤ l.units;
  entered : AreEntered (hour_period l.system l.hour) l.system.merit.now.order.items (base_parts l.system l.hour l.base) l.done l.base.fill.now l.fill;
}

abbrev pub decreases-loop-done : goal.decreases-loop-done
decreases-loop-done l = l.units - l.done
