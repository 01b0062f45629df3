-- The rows of a stitched schedule. This project's own.
use Rattle.std.specs.Prelude.{◌≡◌, ℕ, ◌+◌, ◌<◌, ◌≤◌, ◌++◌, List, [], length, take}
use Rattle.schedule_check.specs.WholeWatts.{category, cell, commitment}
use Rattle.roll.specs.Left.{Thermal, Cell}
use Rattle.roll.specs.Stitched.{SameDispatch}
use Rattle.start_costs.specs.Cheapest.{HasLeastCategory}
use Rattle.roll.specs.inside.Rows.{row_at, unit_at}

-- the row of a unit: what is kept, and the first cells of what is new, with the start categories chosen anew
pub record IsStitchedRow (unit : Thermal) (kept new : List Cell) (keep : ℕ) (row : List Cell) : Type 0 where
  pub length_is : length row ≡ length kept + keep
  pub same : (t : ℕ) → SameDispatch (cell (kept ++ take keep new) t) (cell row t)
  pub least : (t : ℕ) → t < length row → HasLeastCategory unit (commitment row) t (category row t)

-- the rows of the first units
pub record AreStitchedRows (units : List Thermal) (kept new : List (List Cell)) (keep count : ℕ) (rows : List (List Cell)) : Type 0 where
  pub length_is : length rows ≡ count
  pub each : (g : ℕ) → g < count → IsStitchedRow (unit_at units g) (row_at kept g) (row_at new g) keep (row_at rows g)

-- rows of so many units, of which the new ones have the cells that are to be kept
pub record AreJoinable {X : Type 0} (count keep : ℕ) (kept new : List (List X)) : Type 0 where
  pub kept_count : length kept ≡ count
  pub new_count : length new ≡ count
  pub part : (g : ℕ) → g < count → keep ≤ length (row_at new g)

-- the rows of the first units: what is kept, and the first entries of what is new
pub record AreJoined {X : Type 0} (kept new : List (List X)) (keep count : ℕ) (rows : List (List X)) : Type 0 where
  pub length_is : length rows ≡ count
  pub each : (g : ℕ) → g < count → row_at rows g ≡ row_at kept g ++ take keep (row_at new g)

-- so many rows, and no entry in any
pub record AreEmpty {X : Type 0} (count : ℕ) (rows : List (List X)) : Type 0 where
  pub length_is : length rows ≡ count
  pub each : (g : ℕ) → g < count → row_at rows g ≡ []
