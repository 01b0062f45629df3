-- The rows so far are written, and the others are as they were.
use Rattle.std.proofs.Common.{[]}
use Rattle.dispatch_repair.specs.Amounts.{amount_at}
use Rattle.dispatch_repair.specs.Prelude.{rows_of}
use Rattle.dispatch_repair.specs.inside.Rows.{outputs_with}
use Rattle.dispatch_repair.proofs.Listed.{IsListedTo}
use Rattle.dispatch_repair.proofs.rows.write_outputs.Given as goal

abbrev pub invariant-loop-w : goal.invariant-loop-w
invariant-loop-w l = IsListedTo [] (outputs_with (amount_at l.amounts) l.t (rows_of l.initial.rows.items)) l.w (rows_of l.initial.rows.items) (rows_of l.rows.items)
