-- Price tables: the Lagrange multipliers of the coupling rules, their shape, signs and limits. Source: the
-- Lagrangian relaxation of the reference model by Knueven, Ostrowski and Watson that prices demand (M14),
-- reserve (M15) and the ramps (M11, M12); the limits in size are this project's.
--
-- Units and periods count from 0 here.
use Rattle.std.specs.Prelude.{◌≡◌, ℕ, suc, ◌<◌, ◌≤◌, ◌⊎◌, ◌≢◌, ◌-◌, ◌&&◌, ◌==◌, nat_lt, List, [], ◌∷◌, ℤ, pos, ◌≤ℤ◌, unsigned_abs, length, take, drop, slice_index_or, All, if◌then◌else◌}
use Rattle.uc_model.specs.Prelude.{thermal_count}
pub use Rattle.uc_model.specs.declared.instance.Instance.{Instance}
pub use Rattle.dual_model.specs.declared.limits.TheConstants.{MAX_SCALE, MAX_PRICE}
pub use Rattle.dual_model.specs.declared.table.Table.{Table}
pub use Rattle.dual_model.specs.declared.table.RampRow.{RampRow}

-- the multiplier of demand in period t, and that of reserve; past the last period they are 0
abbrev pub pi_at : Table → ℕ → ℤ
pi_at table t = slice_index_or table.pi t (pos 0)

abbrev pub mu_at : Table → ℕ → ℤ
mu_at table t = slice_index_or table.mu t (pos 0)

-- the first row of unit g in period t; where there is none, one that is all 0
abbrev pub row_of : List RampRow → ℕ → ℕ → RampRow
row_of [] g t = record { g = g; t = t; up = pos 0; down = pos 0 }
row_of (row ∷ rows) g t = if (row.g == g) && (row.t == t) then row else row_of rows g t

-- the number of rows of the units before g: the place where unit g begins
abbrev pub rows_before : List RampRow → ℕ → ℕ
rows_before [] g = 0
rows_before (row ∷ rows) g = if nat_lt row.g g then suc (rows_before rows g) else rows_before rows g

-- the rows of unit g, of rows that rise by unit: from its place to the next unit's
abbrev pub unit_rows : List RampRow → ℕ → List RampRow
unit_rows rows g = take (rows_before rows (suc g) - rows_before rows g) (drop (rows_before rows g) rows)

-- unit g's place in a list of places; past its end no row is left
abbrev pub place_in : List ℕ → List RampRow → ℕ → ℕ
place_in places rows g = slice_index_or places g (length rows)

-- the places are those of the units, and end with the last unit that has a row
pub record ArePlacesOf (places : List ℕ) (rows : List RampRow) : Type 0 where
  pub place : (g : ℕ) → place_in places rows g ≡ rows_before rows g
  pub needed : (g : ℕ) → g < length places → rows_before rows g < length rows

-- the multipliers of the ramp rules of unit g in period t; past the last period they are 0, as a table has
-- no row there
abbrev pub up_at : Table → ℕ → ℕ → ℤ
up_at table g t = (row_of table.ramps g t).up

abbrev pub down_at : Table → ℕ → ℕ → ℤ
down_at table g t = (row_of table.ramps g t).down

-- a row comes before another: by unit, and then by period
pub record IsRowBefore (first second : RampRow) : Type 0 where
  pub before : (first.g < second.g) ⊎ ((first.g ≡ second.g) × (first.t < second.t))

-- the rows rise by unit and then by period
abbrev pub AreRising : List RampRow → Type 0
AreRising rows = (i : ℕ) (d : RampRow) → suc i < length rows → IsRowBefore (slice_index_or rows i d) (slice_index_or rows (suc i) d)

-- a row of a cell inside the size, that is not all 0
pub record IsRowWithin (units periods : ℕ) (row : RampRow) : Type 0 where
  pub unit : row.g < units
  pub period : row.t < periods
  pub present : (row.up ≢ pos 0) ⊎ (row.down ≢ pos 0)

-- the one spelling of each list of prices: pi and mu of one length, rows inside the size, strictly rising
-- by unit and period, none all 0, and K at least 0
pub record IsWellFormed (table : Table) : Type 0 where
  pub scale : pos 0 ≤ℤ table.k
  pub lengths : length table.mu ≡ length table.pi
  pub rows : All (IsRowWithin table.units (length table.pi)) table.ramps
  pub rising : AreRising table.ramps

-- a table of the instance's size
pub record HasSizeOf (instance : Instance) (table : Table) : Type 0 where
  pub form : IsWellFormed table
  pub units : table.units ≡ thermal_count instance
  pub periods : length table.pi ≡ instance.periods

-- a row's multipliers are at least 0
pub record IsRowSigned (row : RampRow) : Type 0 where
  pub up : pos 0 ≤ℤ row.up
  pub down : pos 0 ≤ℤ row.down

-- the multipliers of inequalities are at least 0
pub record HasLawfulSigns (table : Table) : Type 0 where
  pub mu : All (λ n. pos 0 ≤ℤ n) table.mu
  pub ramps : All IsRowSigned table.ramps

abbrev pub IsPrice : ℤ → Type 0
IsPrice n = unsigned_abs n ≤ MAX_PRICE

pub record IsRowPriced (row : RampRow) : Type 0 where
  pub up : IsPrice row.up
  pub down : IsPrice row.down

-- the numbers are within the limits
pub record IsWithinLimits (table : Table) : Type 0 where
  pub scale : table.k ≤ℤ MAX_SCALE
  pub pi : All IsPrice table.pi
  pub mu : All IsPrice table.mu
  pub ramps : All IsRowPriced table.ramps

-- a lawful table: of the instance's size, with the signs of a bound, within the limits
pub record IsLawfulTable (instance : Instance) (table : Table) : Type 0 where
  pub size : HasSizeOf instance table
  pub signs : HasLawfulSigns table
  pub limits : IsWithinLimits table
