-- The segments of the sources before, and those between the corners so far.
use Rattle.std.proofs.Common.{◌≡◌, ℕ, ◌+◌, ◌<◌}
use Rattle.uc_model.specs.Prelude.{renewable_count, thermal_count, thermal_unit}
use Rattle.cost_curves.specs.LowerHull.{IsLowerHull}
use Rattle.dispatch_repair.specs.Prelude.{Instance, AreSegmentsOf}
use Rattle.dispatch_repair.proofs.CurveSegments.{ArePushed}
use Rattle.dispatch_repair.proofs.merit_order.push_curve.Given as goal

abbrev pub invariant-loop-i : goal.invariant-loop-i
invariant-loop-i l = (instance : Instance) (g : ℕ) → l.source ≡ renewable_count instance + g → g < thermal_count instance
    → IsLowerHull (thermal_unit instance g).points l.corners → AreSegmentsOf instance l.source l.initial.segments.items
    → ArePushed instance l.source l.corners l.i l.segments.items
