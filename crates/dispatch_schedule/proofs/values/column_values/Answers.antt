-- The next row's value.
use Rattle.dispatch_schedule.proofs.NextValues.{values_next}
use Rattle.dispatch_schedule.proofs.values.column_values.Goals as goal

pub loop-k-preserved : goal.loop-k-preserved
loop-k-preserved c = values_next c.args.table.now c.loop-k.k c.args.count c.loop-k.values.items c.set_value.new.values.items c.loop-k.invariant c.set_value.ensures
