-- Where a cell stands among ramp rows that rise by unit and then by period, as those of one unit do: how its multipliers are
-- found without a walk. This project's own form of a table.
use Rattle.std.specs.Prelude.{◌≡◌, ℕ, suc, ◌<◌, ◌≤◌, ◌⊎◌, List, ℤ, pos, length, slice_index_or}
use Rattle.dual_model.specs.Prelude.{pi_at, up_at, down_at, row_of, output_price, reserve_price}
pub use Rattle.dual_model.specs.Prelude.{AreRising}
pub use Rattle.dual_model.specs.declared.table.Table.{Table}
pub use Rattle.dual_model.specs.declared.table.RampRow.{RampRow}
use Rattle.ramp_duals.specs.declared.multipliers.Multipliers.{Multipliers}

-- row i; past the last one a row of nothing
abbrev pub row_in : List RampRow → ℕ → RampRow
row_in rows i = slice_index_or rows i (record { g = 0; t = 0; up = pos 0; down = pos 0 })

-- a row stands before the cell of unit g in period t
abbrev pub IsBefore : RampRow → ℕ → ℕ → Type 0
IsBefore row g t = (row.g < g) ⊎ ((row.g ≡ g) × (row.t < t))

-- so many rows stand before the cell
pub record IsPlace (rows : List RampRow) (g t place : ℕ) : Type 0 where
  pub within : place ≤ length rows
  pub before : (i : ℕ) → i < place → IsBefore (row_in rows i) g t
  pub later : (i : ℕ) → place ≤ i → i < length rows → ¬ IsBefore (row_in rows i) g t

-- the multipliers of the cell, and the place of the next one of the unit
pub record AreOf (rows : List RampRow) (g t : ℕ) (found : Multipliers) : Type 0 where
  pub up : found.up ≡ (row_of rows g t).up
  pub down : found.down ≡ (row_of rows g t).down
  pub next : IsPlace rows g (suc t) found.next

-- the multipliers that the table has for the cell
pub record AreOfTable (table : Table) (g t : ℕ) (found : Multipliers) : Type 0 where
  pub up : found.up ≡ up_at table g t
  pub down : found.down ≡ down_at table g t

-- the prices of unit g in period t: of output, of reserve and of demand
pub record IsRowOf (table : Table) (g t : ℕ) (row : ℤ × ℤ × ℤ) : Type 0 where
  pub output : row.0 ≡ output_price table g t
  pub reserve : row.1 ≡ reserve_price table g t
  pub demand : row.2 ≡ pi_at table t
