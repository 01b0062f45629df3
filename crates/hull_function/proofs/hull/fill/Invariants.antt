-- The function is L up to its last place; each segment takes a run, of which there are fewer than points.
use Rattle.std.proofs.Common.{◌≡◌, ◌-◌, ◌≤ℤ◌, length}
use Rattle.dual_model.specs.Prelude.{greatest_output}
use Rattle.step_functions.specs.Functions.{last_place, run_count}
use Rattle.hull_function.specs.inside.HullParts.{IsHullTo}
use Rattle.hull_function.proofs.hull.fill.Given as goal

abbrev pub invariant-loop-function : goal.invariant-loop-function
invariant-loop-function l = record {
  hull : IsHullTo l.points l.k l.function;
  within : last_place l.function ≤ℤ greatest_output l.points;
  room : l.function.room ≡ l.fn.function.room;
}

abbrev pub decreases-loop-function : goal.decreases-loop-function
decreases-loop-function l = length l.points - run_count l.function
