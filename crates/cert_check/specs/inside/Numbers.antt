-- The signs and sizes of a table's numbers. This project's own.
use Rattle.std.specs.Prelude.{◌≡◌, ℕ, List, ℤ, pos, ◌≤ℤ◌, Option, Some, None, All, take, slice_get}
use Rattle.dual_model.specs.Prelude.{HasLawfulSigns, IsWithinLimits, IsPrice, IsRowSigned, IsRowPriced}
pub use Rattle.dual_model.specs.declared.table.Table.{Table}
use Rattle.dual_model.specs.declared.table.RampRow.{RampRow}

pub record HasLawfulNumbers (table : Table) : Type 0 where
  pub signs : HasLawfulSigns table
  pub limits : IsWithinLimits table

-- a price of at least 0
pub record IsSignedPrice (n : ℤ) : Type 0 where
  pub low : pos 0 ≤ℤ n
  pub price : IsPrice n

pub record IsLawfulRampRow (row : RampRow) : Type 0 where
  pub signed : IsRowSigned row
  pub priced : IsRowPriced row

-- the first table whose numbers aren't lawful, or none
pub record IsFirstOff (tables : List Table) (i : ℕ) : Type 0 where
  pub table : Table
  pub is_table : slice_get tables i ≡ Some table
  pub off : ¬ HasLawfulNumbers table
  pub before : All HasLawfulNumbers (take i tables)

abbrev pub IsFirstOffOf : List Table → Option ℕ → Type 0
IsFirstOffOf tables None = All HasLawfulNumbers tables
IsFirstOffOf tables (Some i) = IsFirstOff tables i
