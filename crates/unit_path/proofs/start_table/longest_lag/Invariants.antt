-- None of the lags before the row is longer.
use Rattle.std.proofs.Common.{ℕ, ◌<◌, ◌≤◌}
use Rattle.uc_model.specs.declared.limits.TheConstants.{MAX_TIME}
use Rattle.unit_path.specs.inside.StartCosts.{row_of}
use Rattle.unit_path.proofs.start_table.longest_lag.Given as goal

abbrev pub invariant-loop-row : goal.invariant-loop-row
invariant-loop-row l = ((s : ℕ) → s < l.row-index → (row_of l.rows s).lag ≤ l.longest) × (l.longest ≤ MAX_TIME)
