-- The segments of the units so far.
use Rattle.dispatch_repair.specs.Prelude.{AreSegmentsOf}
use Rattle.dispatch_repair.proofs.merit_order.free_segments.Given as goal

abbrev pub invariant-loop-w : goal.invariant-loop-w
invariant-loop-w l = AreSegmentsOf l.instance l.w l.segments.items
