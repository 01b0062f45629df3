-- A count is at most its index, and the next one is one more where there is a change.
use Rattle.std.proofs.Common.{arith, length-set}
use Rattle.schedule_check.proofs.Counting.{count-le, counted, byte_is, one_more}
use Rattle.schedule_check.proofs.counts.Counts.of.Goals as goal

pub overflow_add-before : goal.overflow_add-before
overflow_add-before c = grind (arith, count-le, byte_is, one_more, c)

pub loop-t-preserved : goal.loop-t-preserved
loop-t-preserved c = grind (arith, length-set, counted, c)
