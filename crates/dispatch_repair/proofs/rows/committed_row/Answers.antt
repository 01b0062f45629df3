-- The next cell is the commitment's.
use Rattle.std.proofs.Common.{arith}
use Rattle.dispatch_repair.proofs.RowsCommitted.{row_more}
use Rattle.dispatch_repair.proofs.rows.committed_row.Goals as goal

pub loop-t-preserved : goal.loop-t-preserved
loop-t-preserved c = grind (arith, row_more, c)
