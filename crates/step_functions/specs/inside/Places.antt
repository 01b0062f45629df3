-- Where a step lies among runs.
use Rattle.std.specs.Prelude.{◌≡◌, ℕ, ◌+◌, ◌<◌, ◌≤◌, List, length, take}
pub use Rattle.step_functions.specs.declared.runs.Run.{Run}
pub use Rattle.step_functions.specs.declared.runs.Place.{Place}
use Rattle.step_functions.specs.Runs.{run_of, steps_of}

-- the step is that of its run behind `offset` others of it; past the last run there is none
pub record IsPlaceOf (runs : List Run) (step : ℕ) (place : Place) : Type 0 where
  pub within : place.run ≤ length runs
  pub before : steps_of (take place.run runs) + place.offset ≡ step
  pub inside : place.run < length runs → place.offset < (run_of runs place.run).length
  pub past : place.run ≡ length runs → place.offset ≡ 0
