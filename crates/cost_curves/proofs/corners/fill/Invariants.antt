-- The corners are those of the points so far, and no more than these.
use Rattle.std.proofs.Common.{◌≤◌, take, length}
use Rattle.cost_curves.specs.LowerHull.{HullOfFirst}
use Rattle.cost_curves.proofs.corners.fill.Given as goal

abbrev pub invariant-loop-count : goal.invariant-loop-count
invariant-loop-count l = record {
  held : l.held ≤ l.count;
  room : length l.points ≤ length l.corners;
  hull : HullOfFirst l.points l.count (take l.held l.corners);
}
