-- Neither end's outer neighbour costs less.
use Rattle.std.proofs.Common.{◌-◌}
use Rattle.period_term.proofs.LeastPlaces.{LiesWithin}
use Rattle.period_term.proofs.cell.least_place.Given as goal

abbrev pub invariant-loop-low : goal.invariant-loop-low
invariant-loop-low l = LiesWithin l.corners l.prices.k l.prices.a l.low l.high

abbrev pub decreases-loop-low : goal.decreases-loop-low
decreases-loop-low l = l.high - l.low
