-- The segments so far were filled.
use Rattle.dispatch_repair.specs.Prelude.{IsFilledTo}
use Rattle.dispatch_repair.proofs.fill.fill.Given as goal

abbrev pub invariant-loop-segment : goal.invariant-loop-segment
invariant-loop-segment l = IsFilledTo l.instance l.order l.ranges l.initial.left l.segment-index l.amounts l.left
