-- The cap lies at or right of the low corner, and left of the high one.
use Rattle.std.proofs.Common.{◌-◌}
use Rattle.period_term.proofs.LeastPlaces.{LiesAcross}
use Rattle.period_term.proofs.cell.cap_place.Given as goal

abbrev pub invariant-loop-high : goal.invariant-loop-high
invariant-loop-high l = LiesAcross l.corners l.cap l.low l.high l.place

abbrev pub decreases-loop-high : goal.decreases-loop-high
decreases-loop-high l = l.high - l.low
