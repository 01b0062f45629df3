-- The rows so far.
use Rattle.std.proofs.Common.{◌≡◌}
use Rattle.dispatch_repair.specs.Prelude.{rows_of}
use Rattle.dispatch_repair.proofs.rows.lists.Given as goal

abbrev pub invariant-loop-row : goal.invariant-loop-row
invariant-loop-row g l = l.lists.items ≡ rows_of l.yielded
