-- L as a function that is made segment by segment.
use Rattle.std.specs.Prelude.{◌≡◌, ℕ, ◌+◌, ◌*◌, ◌^◌, ◌<◌, ◌≤◌, List, ℤ, pos, ◌*ℤ◌, length}
use Rattle.uc_model.specs.Prelude.{output_of, hull_cost}
use Rattle.dual_model.specs.Prelude.{slope_from}
use Rattle.step_functions.specs.Functions.{last_place, run_count}
use Rattle.step_functions.specs.Runs.{slope_at, steps_of}
use Rattle.hull_function.specs.Hulls.{Point, Steps, IsBounded}

-- K times a number of 64 bits is at most so large, and what L rises by along a segment
abbrev pub MAX_CORNER : ℕ
MAX_CORNER = 10 ^ 28

abbrev pub MAX_SEGMENT : ℕ
MAX_SEGMENT = 2 * 10 ^ 22

-- the function is L from 0 on to the output of one of the points, with a run for each segment
pub record IsHullTo (points : List Point) (k : ℤ) (f : Steps) : Type 0 where
  pub first : f.first ≡ pos 0
  pub value : f.value ≡ k *ℤ hull_cost points 1 (pos 0)
  pub slopes : (j : ℕ) → j < steps_of f.runs → slope_at f.runs j ≡ slope_from points k j
  pub size : IsBounded f (MAX_CORNER + run_count f * MAX_SEGMENT)
  -- the point that it ends at has so many before it
  pub place : ℕ
  pub within : place < length points
  pub ends : output_of points place ≡ last_place f
  pub pieces : run_count f ≤ place
