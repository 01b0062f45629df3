-- The values by the rows so far.
use Rattle.dispatch_schedule.specs.inside.Values.{AreValuesTo}
use Rattle.dispatch_schedule.proofs.values.column_values.Given as goal

abbrev pub invariant-loop-k : goal.invariant-loop-k
invariant-loop-k l = AreValuesTo l.table l.k l.count l.values.items
