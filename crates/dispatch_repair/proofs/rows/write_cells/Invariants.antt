-- The rows so far are written, and what is left is the need without their reserves.
use Rattle.dispatch_repair.specs.Prelude.{rows_of}
use Rattle.dispatch_repair.proofs.RowsWritten.{IsWrittenSoFar}
use Rattle.dispatch_repair.proofs.rows.write_cells.Given as goal

abbrev pub invariant-loop-g : goal.invariant-loop-g
invariant-loop-g l = IsWrittenSoFar l.amounts l.heads l.need l.t l.g (rows_of l.initial.rows.items) (rows_of l.rows.items) l.left
