-- A schedule stitched of what is kept and of the first periods of a window's schedule, with the start categories chosen
-- anew: the cheapest that the whole history allows. Source: the rolling horizon of unit commitment; start categories as in
-- the reference model by Knueven, Ostrowski and Watson.
--
-- Periods count from 0.
use Rattle.std.specs.Prelude.{◌≡◌, ℕ, ◌+◌, ◌<◌, ◌≤◌, ◌++◌, take}
use Rattle.uc_model.specs.Prelude.{thermal_unit, thermal_count, renewable_count, HasShapeOf, cell_at, IsLawfulInstance}
use Rattle.start_costs.specs.Cheapest.{HasLeastCategory}
use Rattle.schedule_check.specs.SizedNumbers.{output_at}
use Rattle.schedule_check.specs.PlainNumbers.{HasPlainNumbers}
use Rattle.schedule_check.specs.WholeWatts.{commitment, row_of}
use Rattle.roll.specs.FirstPeriods.{first_periods}
use Rattle.roll.specs.Left.{Instance, Cell, Printed}
use Rattle.roll.specs.NextWindow.{IsNextWindow}
use Rattle.roll.specs.Kept.{PrintedObeys}

-- one state, output and reserve; the categories may differ
pub record SameDispatch (old new : Cell) : Type 0 where
  pub on : new.on ≡ old.on
  pub output : new.p ≡ old.p
  pub reserve : new.r ≡ old.r

-- the first m periods are what is kept, and the n behind them the first n of the window's schedule
pub record IsStitched (instance : Instance) (m n : ℕ) (kept shown stitched : Printed) : Type 0 where
  pub shape : HasShapeOf (first_periods (m + n) instance) stitched
  pub whole : stitched.denominator ≡ 1
  pub old_cells : (g t : ℕ) → g < thermal_count instance → t < m → SameDispatch (cell_at kept g t) (cell_at stitched g t)
  pub new_cells : (g t : ℕ) → g < thermal_count instance → t < n → SameDispatch (cell_at shown g t) (cell_at stitched g (m + t))
  pub categories : (g t : ℕ) → g < thermal_count instance → t < m + n
      → HasLeastCategory (thermal_unit instance g) (commitment (row_of stitched g)) t (cell_at stitched g t).category
  pub old_outputs : (w t : ℕ) → w < renewable_count instance → t < m → output_at stitched w t ≡ output_at kept w t
  pub new_outputs : (w t : ℕ) → w < renewable_count instance → t < n → output_at stitched w (m + t) ≡ output_at shown w t
  pub shed : stitched.shed ≡ kept.shed ++ take n shown.shed
  pub short : stitched.short ≡ kept.short ++ take n shown.short

-- a schedule of the window behind what is kept of the first m periods, of which the first n are to be kept
pub record IsContinuation (instance : Instance) (kept : Printed) (m n : ℕ) (shown : Printed) : Type 0 where
  pub len : ℕ
  pub window : Instance
  pub next : IsNextWindow instance kept m len window
  pub lawful : IsLawfulInstance window
  pub some : 1 ≤ n
  pub part : n ≤ len
  pub within : m + len ≤ instance.periods
  pub shape : HasShapeOf window shown
  pub whole : shown.denominator ≡ 1
  pub numbers : HasPlainNumbers shown
  pub obeys : PrintedObeys window shown
