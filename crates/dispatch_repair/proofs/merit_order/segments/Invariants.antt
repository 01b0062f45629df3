-- The segments of the sources so far.
use Rattle.std.proofs.Common.{◌+◌}
use Rattle.dispatch_repair.specs.Prelude.{AreSegmentsOf}
use Rattle.dispatch_repair.proofs.merit_order.segments.Given as goal

abbrev pub invariant-loop-g : goal.invariant-loop-g
invariant-loop-g l = AreSegmentsOf l.instance (l.renewables + l.g) l.segments.items
