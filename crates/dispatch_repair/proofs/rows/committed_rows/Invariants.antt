-- The rows so far are the commitment's.
use Rattle.dispatch_repair.specs.Prelude.{rows_of}
use Rattle.dispatch_repair.specs.inside.Rows.{AreCommittedRows}
use Rattle.dispatch_repair.proofs.rows.committed_rows.Given as goal

abbrev pub invariant-loop-g : goal.invariant-loop-g
invariant-loop-g l = AreCommittedRows l.instance l.patterns l.g (rows_of l.rows.items)
