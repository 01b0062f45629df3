-- The runs so far are below.
use Rattle.std.proofs.Common.{ℕ, ◌<◌, ◌<ℤ◌}
use Rattle.step_functions.specs.Runs.{run_of}
use Rattle.step_functions.proofs.runs.runs_below.Given as goal

abbrev pub invariant-loop-number : goal.invariant-loop-number
invariant-loop-number l = (i : ℕ) → i < l.number → (run_of l.runs i).slope <ℤ l.slope
