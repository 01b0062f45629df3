-- The sizes of a start's table, as a run on it wants them.
-- Cite from a crate above by `use Rattle.dispatch_table.proofs.StartSizes.{rows_follow, free_is_within}`.
use Rattle.std.proofs.Common.{◌≡◌, ◌+◌, sym, subst, length}
use Rattle.pivot_run.specs.Prelude.{Table}
use Rattle.dispatch_program.specs.Prelude.{Program, start_table}
use Rattle.dispatch_program.proofs.Starts.{rows_long}
use Rattle.dispatch_rules.specs.Prelude.{Task, program}
use Rattle.dispatch_table.specs.Start.{Start, IsStartOf}

-- the sum row and the cost row follow the constraints
rows_after : (p : Program) → length (start_table p).rows ≡ (start_table p).constraints + 2
rows_after p = rows_long p

pub rows_follow : (task : Task) (s : Start) → IsStartOf task s → length s.table.rows ≡ s.table.constraints + 2
rows_follow task s is = subst (λ (t : Table). length t.rows ≡ t.constraints + 2) (sym is.table) (rows_after (program task))
