-- The rows so far.
use Rattle.std.proofs.Common.{◌≡◌, length, All}
use Rattle.dispatch_repair.specs.Prelude.{rows_of}
use Rattle.dispatch_repair.proofs.rows.no_outputs.Given as goal

abbrev pub invariant-loop : goal.invariant-loop
invariant-loop l = (length l.rows.items ≡ l.counter) × All (λ row. length row ≡ l.periods) (rows_of l.rows.items)
