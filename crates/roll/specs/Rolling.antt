-- Rolling windows: which periods each has, what is kept of it, and what comes of all. Source: the rolling horizon of unit commitment, in
-- which each window has as many periods as the horizon and begins a step behind the one before it.
--
-- What the search of a window may find is left open here: it is a relation of an instance and what was found. Periods count from 0, but
-- for those of a place and of an outcome.
use Rattle.std.specs.Prelude.{◌≡◌, ℕ, suc, ◌+◌, ◌-◌, ◌*◌, ◌<◌, ◌≤◌, min, ℤ, Some, None}
use Rattle.uc_model.specs.Prelude.{IsLawfulInstance, cell_at, shed_at, short_at, thermal_unit, thermal_count, renewable_count}
pub use Rattle.branch_tree.specs.declared.found.Found.{Found}
use Rattle.schedule_check.specs.Accepted.{IsAccepted}
use Rattle.schedule_check.specs.SizedNumbers.{output_at}
use Rattle.schedule_check.specs.WholeWatts.{commitment, row_of}
pub use Rattle.roll.specs.Left.{Instance, Printed}
use Rattle.roll.specs.Kept.{IsKept}
use Rattle.roll.specs.NextWindow.{IsNextWindow}
use Rattle.roll.specs.Stitched.{SameDispatch}
use Rattle.start_costs.specs.Cheapest.{HasLeastCategory}
pub use Rattle.roll.specs.declared.places.Place.{Place}
pub use Rattle.roll.specs.declared.rolled.Rolled.{Rolled}
use Rattle.roll.specs.declared.rolled.Rolled.TheVariants.{Whole, Stopped}

-- ---- the windows
-- how many periods of a window are kept, but of the last: each window begins so many behind the one before it
abbrev pub pace : ℕ → ℕ → ℕ
pace window step = min step window

-- how many periods lie before the window that is behind j others
abbrev pub periods_before : ℕ → ℕ → ℕ → ℕ
periods_before window step j = j * pace window step

-- none of the first n windows reaches the last period
abbrev pub AreBefore : ℕ → ℕ → ℕ → ℕ → Type 0
AreBefore periods window step n = (j : ℕ) → j < n → periods_before window step j + window < periods

-- the window behind the first `done` periods: it reaches as far as a window does, or to the last period. The pace is kept of it, and
-- all where it reaches the last period
pub record IsNextPlace (periods window step done : ℕ) (place : Place) : Type 0 where
  pub from : place.from ≡ suc done
  pub reach : done + place.len ≡ min periods (done + window)
  pub last : done + place.len ≡ periods → place.keep ≡ place.len
  pub others : done + place.len < periods → place.keep ≡ pace window step

-- ---- what is kept
-- n periods of a schedule, behind the first `start`, are the first n of one that is shown, but for the categories
pub record IsShownFrom (instance : Instance) (start n : ℕ) (shown schedule : Printed) : Type 0 where
  pub cells : (g t : ℕ) → g < thermal_count instance → t < n → SameDispatch (cell_at shown g t) (cell_at schedule g (start + t))
  pub outputs : (w t : ℕ) → w < renewable_count instance → t < n → output_at schedule w (start + t) ≡ output_at shown w t
  pub shed : (t : ℕ) → t < n → shed_at schedule (start + t) ≡ shed_at shown t
  pub short : (t : ℕ) → t < n → short_at schedule (start + t) ≡ short_at shown t

-- in the first n periods each start has the cheapest category that the whole history allows, the first of several, and no other cell
-- has one
abbrev pub HasLeastCategories : Instance → ℕ → Printed → Type 0
HasLeastCategories instance n schedule = (g t : ℕ) → g < thermal_count instance → t < n
    → HasLeastCategory (thermal_unit instance g) (commitment (row_of schedule g)) t (cell_at schedule g t).category

-- the window of `len` periods behind the first `start` of a schedule: its search found a schedule, of which the first `keep` periods
-- are those that the schedule has there
pub record IsRolledWindow (MayFind : Instance → Found → Type 0) (instance : Instance) (schedule : Printed) (start len keep : ℕ) : Type 0 where
  pub window : Instance
  pub next : IsNextWindow instance schedule start len window
  pub found : Found
  pub search : MayFind window found
  pub shown : Printed
  pub cost : ℤ
  pub is_shown : found.schedule ≡ Some (shown, cost)
  pub kept : IsShownFrom instance start keep shown schedule

-- the schedule is of the first n windows, none of which reaches the last period, each as far as the pace
pub record AreRolled (MayFind : Instance → Found → Type 0) (instance : Instance) (window step n : ℕ) (schedule : Printed) : Type 0 where
  pub before : AreBefore instance.periods window step n
  pub each : (j : ℕ) → j < n → IsRolledWindow MayFind instance schedule (periods_before window step j) window (pace window step)

-- the schedule is of so many windows, of which the last one reaches the last period and is kept whole
pub record AreAllRolled (MayFind : Instance → Found → Type 0) (instance : Instance) (window step windows : ℕ) (schedule : Printed) : Type 0 where
  pub before : ℕ
  pub number : windows ≡ suc before
  pub others : AreRolled MayFind instance window step before schedule
  pub start : ℕ
  pub is_start : start ≡ periods_before window step before
  pub some : start < instance.periods
  pub reach : instance.periods ≤ start + window
  pub last : IsRolledWindow MayFind instance schedule start (instance.periods - start) (instance.periods - start)

-- what is rolled so far: a schedule of the first `done` periods, of so many windows
pub record IsRolledSoFar (MayFind : Instance → Found → Type 0) (instance : Instance) (window step done windows : ℕ) (schedule : Printed)
    : Type 0 where
  pub kept : IsKept instance done schedule
  pub categories : HasLeastCategories instance done schedule
  pub few : windows ≤ done
  pub place : done < instance.periods → done ≡ periods_before window step windows
  pub going : done < instance.periods → AreRolled MayFind instance window step windows schedule
  pub ended : done ≡ instance.periods → AreAllRolled MayFind instance window step windows schedule

-- ---- what comes of all
-- a schedule of all periods, which obeys and costs what is said
pub record IsWholeRoll (MayFind : Instance → Found → Type 0) (instance : Instance) (window step : ℕ) (schedule : Printed) (cost : ℤ) (windows : ℕ)
    : Type 0 where
  pub accepted : IsAccepted instance schedule cost
  pub categories : HasLeastCategories instance instance.periods schedule
  pub rolled : AreAllRolled MayFind instance window step windows schedule

-- a window whose search found no schedule, behind those of which a schedule is kept: its number, its first and its last period
pub record IsStoppedRoll (MayFind : Instance → Found → Type 0) (instance : Instance) (window step number from to : ℕ) (kept : Printed) (found : Found)
    : Type 0 where
  pub before : ℕ
  pub is_number : number ≡ suc before
  pub others : AreRolled MayFind instance window step before kept
  pub start : ℕ
  pub is_start : start ≡ periods_before window step before
  pub some : start < instance.periods
  pub is_from : from ≡ suc start
  pub is_to : to ≡ min instance.periods (start + window)
  pub is_kept : IsKept instance start kept
  pub ahead : Instance
  pub next : IsNextWindow instance kept start (to - start) ahead
  pub lawful : IsLawfulInstance ahead
  pub search : MayFind ahead found
  pub none : found.schedule ≡ None

abbrev pub IsRolledBy : (Instance → Found → Type 0) → Instance → ℕ → ℕ → Rolled → Type 0
IsRolledBy MayFind instance window step (Whole schedule cost windows) = IsWholeRoll MayFind instance window step schedule cost windows
IsRolledBy MayFind instance window step (Stopped number from to kept found) = IsStoppedRoll MayFind instance window step number from to kept found

-- the exit status: 0 with a schedule of all periods, 10 where a window has none
abbrev pub status_of : Rolled → ℕ
status_of (Whole schedule cost windows) = 0
status_of (Stopped window from to kept found) = 10
