-- The rows before k have so many.
use Rattle.std.proofs.Common.{◌≡◌, ℕ, ◌<◌, length}
use Rattle.pivot_run.specs.Prelude.{row_at}
use Rattle.pivot_run.proofs.tableau.are_as_long.Given as goal

abbrev pub invariant-loop-k : goal.invariant-loop-k
invariant-loop-k l = (k : ℕ) → k < l.k → length (row_at l.rows k) ≡ l.columns
