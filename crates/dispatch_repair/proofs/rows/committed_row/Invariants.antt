-- The cells so far are the commitment's.
use Rattle.dispatch_repair.specs.inside.Rows.{IsCommittedRow}
use Rattle.dispatch_repair.proofs.rows.committed_row.Given as goal

abbrev pub invariant-loop-t : goal.invariant-loop-t
invariant-loop-t l = IsCommittedRow l.instance l.patterns l.g l.t l.row.items
