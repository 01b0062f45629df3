-- The output lies right of the low corner, and not right of the high one.
use Rattle.std.proofs.Common.{◌-◌}
use Rattle.cost_curves.proofs.HullValues.{LiesBetween}
use Rattle.cost_curves.proofs.places.place.Given as goal

abbrev pub invariant-loop-high : goal.invariant-loop-high
invariant-loop-high l = LiesBetween l.corners l.p l.low l.high

abbrev pub decreases-loop-high : goal.decreases-loop-high
decreases-loop-high l = l.high - l.low
