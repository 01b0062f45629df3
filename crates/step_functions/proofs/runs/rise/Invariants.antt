-- The sum is that of the runs before, and what is left lies behind them.
use Rattle.std.proofs.Common.{◌≡◌, ◌+◌, take}
use Rattle.uc_model.specs.Prelude.{sum_below}
use Rattle.step_functions.specs.Runs.{slope_at, steps_of}
use Rattle.step_functions.proofs.runs.rise.Given as goal

abbrev pub invariant-loop-run : goal.invariant-loop-run
invariant-loop-run l =
    (steps_of (take l.run-index l.runs) + l.rest ≡ l.count) × (l.sum ≡ sum_below (steps_of (take l.run-index l.runs)) (slope_at l.runs))
