-- The lists of units that a window is made of. This project's own.
use Rattle.std.specs.Prelude.{◌≡◌, ℕ, ◌<◌, ◌≤◌, List, [], length, slice_index_or}
use Rattle.uc_model.specs.declared.instance.Renewable.{Renewable}
use Rattle.roll.specs.Left.{Thermal, CarriedUnit}
use Rattle.roll.specs.NextWindow.{continued, limits_within}
use Rattle.roll.specs.inside.Rows.{state_at, unit_at}

-- renewable unit w of a list
abbrev pub renewable_at : List Renewable → ℕ → Renewable
renewable_at units w = slice_index_or units w (record { name = []; minimum = []; maximum = [] })

-- the first units with their states
pub record AreContinued (units : List Thermal) (states : List CarriedUnit) (count : ℕ) (own : List Thermal) : Type 0 where
  pub length_is : length own ≡ count
  pub each : (g : ℕ) → g < count → unit_at own g ≡ continued (unit_at units g) (state_at states g)

-- each unit has limits in so many periods
pub record HasLimits (periods : ℕ) (unit : Renewable) : Type 0 where
  pub minimum : periods ≤ length unit.minimum
  pub maximum : periods ≤ length unit.maximum

abbrev pub HaveLimits : ℕ → List Renewable → Type 0
HaveLimits periods units = (w : ℕ) → w < length units → HasLimits periods (renewable_at units w)

-- the first units with their limits in the window
pub record AreWithin (units : List Renewable) (start len count : ℕ) (own : List Renewable) : Type 0 where
  pub length_is : length own ≡ count
  pub each : (w : ℕ) → w < count → renewable_at own w ≡ limits_within start len (renewable_at units w)
