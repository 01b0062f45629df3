-- The kept corners' last one sees no point right of it below the line to the next point.
use Rattle.cost_curves.proofs.JoinedCorners.{Covers}
use Rattle.uc_model.specs.Prelude.{point_of}
use Rattle.cost_curves.proofs.corners.kept_corners.Given as goal

abbrev pub invariant-loop-point : goal.invariant-loop-point
invariant-loop-point l = Covers l.points l.count l.corners (point_of l.points l.count) l.kept

abbrev pub decreases-loop-point : goal.decreases-loop-point
decreases-loop-point l = l.kept
