-- Convex piecewise linear functions on a whole interval, with whole breakpoints and whole slopes. Source: the cost-to-go of a
-- single unit with ramps by A. Frangioni and C. Gentile, "Solving Nonlinear Single-Unit Commitment Problems with Ramping
-- Constraints" (Operations Research 54, 2006), at a linear cost in each segment: its least values are at whole places.
use Rattle.std.specs.Prelude.{◌≡◌, ℕ, ◌≤◌, List, length, ℤ, pos, ◌+ℤ◌, ◌-ℤ◌, ◌≤ℤ◌, unsigned_abs}
use Rattle.std.specs.Int.{int_max}
use Rattle.uc_model.specs.Prelude.{sum_below}
pub use Rattle.step_functions.specs.declared.runs.Run.{Run}
use Rattle.step_functions.specs.Runs.{slope_at, steps_of}
pub use Rattle.step_functions.specs.declared.limits.TheConstants.{MAX_PLACE, MAX_VALUE}

-- what contracts see of a function: its first place, its value there, the runs of its steps, and for how many runs there
-- is room
pub record Steps : Type 0 where
  pub first : ℤ
  pub value : ℤ
  pub runs : List Run
  pub room : ℕ

abbrev pub run_count : Steps → ℕ
run_count f = length f.runs

abbrev pub last_place : Steps → ℤ
last_place f = f.first +ℤ pos (steps_of f.runs)

-- p is a place of the interval that the function is on
pub record IsPlace (f : Steps) (p : ℤ) : Type 0 where
  pub low : f.first ≤ℤ p
  pub high : p ≤ℤ last_place f

-- its value at a place of the interval: that at the first one, and what it rises by over the steps up to there
unfoldable pub value_at : Steps → ℤ → ℤ
value_at f p = f.value +ℤ sum_below (unsigned_abs (p -ℤ f.first)) (slope_at f.runs)

-- m is the least value of f at the places from `low` to `high`
pub record IsLeastBetween (f : Steps) (low high m : ℤ) : Type 0 where
  pub place : ℤ
  pub is_place : IsPlace f place
  pub after : low ≤ℤ place
  pub before : place ≤ℤ high
  pub reached : m ≡ value_at f place
  pub least : (p : ℤ) → IsPlace f p → low ≤ℤ p → p ≤ℤ high → m ≤ℤ value_at f p

-- by how much a place lies below another, and 0 where it doesn't
abbrev pub shortfall : ℤ → ℤ → ℤ
shortfall place p = int_max (place -ℤ p) (pos 0)

-- the place is within the limits
abbrev pub IsWithin : ℤ → Type 0
IsWithin place = unsigned_abs place ≤ MAX_PLACE

-- a value is within the limits
abbrev pub IsSmall : ℤ → Type 0
IsSmall value = unsigned_abs value ≤ MAX_VALUE
