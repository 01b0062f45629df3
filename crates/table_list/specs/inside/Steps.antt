-- What contracts see of a table that is being rebuilt, and of a price that may change.
use Rattle.std.specs.Prelude.{◌≡◌, ℕ, ◌<◌, ◌≤◌, false, ℤ, List, [], ◌∷◌, ◌++◌, length, take, drop, slice_index_or, if◌then◌else◌}
use Rattle.std.specs.Ordering.{int_eq}
use Rattle.table_list.specs.Changes.{Table, RampRow, Change, is_before, with_row}
pub use Rattle.table_list.specs.declared.numbers.Numbers.{Numbers}

-- the table of these numbers
abbrev pub numbered : Numbers → Table
numbered numbers = record { units = numbers.units; k = numbers.k; pi = numbers.pi.items; mu = numbers.mu.items; ramps = numbers.ramps.items }

-- the change of the price in period t, where it is another than before
abbrev pub told_price : (ℕ → ℤ → Change) → ℕ → ℤ → ℤ → List Change
told_price change t old new = if int_eq old new then [] else change t new ∷ []

-- those of the rows before that place come before the row, and the one there doesn't
pub record IsRowPlace (rows : List RampRow) (row : RampRow) (place : ℕ) : Type 0 where
  pub within : place ≤ length rows
  pub behind : with_row rows row ≡ take place rows ++ with_row (drop place rows) row
  pub front : (d : RampRow) → place < length rows → is_before (slice_index_or rows place d) row ≡ false
