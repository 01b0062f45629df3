-- What the functions on single rows are called with. This project's own.
use Rattle.std.specs.Prelude.{◌≡◌, ℕ, ◌-◌, ◌<◌, false, List, [], pos, ◌+ℤ◌, ◌-ℤ◌, ◌≤ℤ◌, length, slice_index_or}
use Rattle.uc_model.specs.Prelude.{no_unit, IsLawfulThermal}
use Rattle.schedule_check.specs.WholeWatts.{cell}
use Rattle.roll.specs.Left.{Thermal, Cell, CarriedUnit, IsLawfulState, IsLeftBy, initial_state}

-- output and reserve are at least 0, and with the minimum within the maximum
pub record IsWithinRange (unit : Thermal) (last : Cell) : Type 0 where
  pub output : pos 0 ≤ℤ last.p
  pub reserve : pos 0 ≤ℤ last.r
  pub total : (last.p +ℤ last.r) ≤ℤ (unit.pmax -ℤ unit.pmin)

-- unit g of a list, row g of the rows, and state g of the states
abbrev pub unit_at : List Thermal → ℕ → Thermal
unit_at units g = slice_index_or units g no_unit

abbrev pub row_at : {X : Type 0} → List (List X) → ℕ → List X
row_at rows g = slice_index_or rows g []

abbrev pub state_at : List CarriedUnit → ℕ → CarriedUnit
state_at states g = slice_index_or states g (record { on = false; output = pos 0; time_on = 0; time_off = 0 })

-- lawful units
abbrev pub AreLawful : List Thermal → Type 0
AreLawful units = (g : ℕ) → g < length units → IsLawfulThermal (unit_at units g)

-- a row of each unit, of so many cells, the last of them within the unit's range
pub record HasRows (units : List Thermal) (rows : List (List Cell)) (end : ℕ) : Type 0 where
  pub count : length rows ≡ length units
  pub cells : (g : ℕ) → g < length units → length (row_at rows g) ≡ end
  pub last : (g : ℕ) → g < length units → IsWithinRange (unit_at units g) (cell (row_at rows g) (end - 1))

-- the first states are the units' own
pub record AreInitialStates (units : List Thermal) (count : ℕ) (states : List CarriedUnit) : Type 0 where
  pub length_is : length states ≡ count
  pub each : (g : ℕ) → g < count → state_at states g ≡ initial_state (unit_at units g)

-- the first states are what the rows leave
pub record AreStatesBehind (units : List Thermal) (rows : List (List Cell)) (end count : ℕ) (states : List CarriedUnit) : Type 0 where
  pub length_is : length states ≡ count
  pub each : (g : ℕ) → g < count → IsLeftBy (unit_at units g) (row_at rows g) end (state_at states g)
  pub lawful : (g : ℕ) → g < count → IsLawfulState (state_at states g)
