-- What each function keeps: its runs have steps, whose slopes rise, and its places and values are within the limits.
use Rattle.std.specs.Prelude.{ℕ, ◌<◌, ◌≤◌, List, All, ◌*◌, ℤ, ◌+ℤ◌, ◌≤ℤ◌, unsigned_abs}
use Rattle.uc_model.specs.Prelude.{sum_below}
pub use Rattle.step_functions.specs.declared.runs.Run.{Run}
use Rattle.step_functions.specs.Runs.{slope_at, steps_of}
pub use Rattle.step_functions.specs.Functions.{Steps, MAX_VALUE, last_place, IsWithin, IsSmall}

-- each run has a step
abbrev pub HaveSteps : List Run → Type 0
HaveSteps runs = All (λ run. 1 ≤ run.length) runs

-- no slope is larger in size than two values lie apart
abbrev pub HaveSmallSlopes : List Run → Type 0
HaveSmallSlopes runs = (k : ℕ) → k < steps_of runs → unsigned_abs (slope_at runs k) ≤ 2 * MAX_VALUE

-- no step rises by more than a later one
abbrev pub AreRising : List Run → Type 0
AreRising runs = (j k : ℕ) → j ≤ k → k < steps_of runs → slope_at runs j ≤ℤ slope_at runs k

-- the value after the first k steps
abbrev pub height : ℤ → List Run → ℕ → ℤ
height value runs k = value +ℤ sum_below k (slope_at runs)

-- each value is within the limits
abbrev pub AreSmall : ℤ → List Run → Type 0
AreSmall value runs = (k : ℕ) → k ≤ steps_of runs → IsSmall (height value runs k)

pub record IsKept (f : Steps) : Type 0 where
  pub steps : HaveSteps f.runs
  pub rising : AreRising f.runs
  pub first : IsWithin f.first
  pub last : IsWithin (last_place f)
  pub values : AreSmall f.value f.runs
