-- Prices while they are moved, and the rows of a table while they are made.
use Rattle.std.specs.Prelude.{ℕ, suc, ◌+◌, ◌<◌, ◌≡◌, List, ℤ, pos, ◌≤ℤ◌, All, length, slice_index_or}
use Rattle.dual_model.specs.Prelude.{IsPrice, IsRowBefore, IsRowPriced, IsRowSigned, IsRowWithin}
pub use Rattle.dual_model.specs.declared.table.RampRow.{RampRow}

-- the multiplier of an inequality, which is at least 0
pub record IsMultiplier (price : ℤ) : Type 0 where
  pub low : pos 0 ≤ℤ price
  pub size : IsPrice price

-- rows of cells inside the size, none all 0, rising by unit and period, with multipliers of inequalities
pub record AreLawfulRows (units periods : ℕ) (rows : List RampRow) : Type 0 where
  pub within : All (IsRowWithin units periods) rows
  pub rising : (i : ℕ) (d : RampRow) → suc i < length rows → IsRowBefore (slice_index_or rows i d) (slice_index_or rows (suc i) d)
  pub signed : All IsRowSigned rows
  pub priced : All IsRowPriced rows

-- a row comes behind the last of the others
abbrev pub IsBehind : List RampRow → RampRow → Type 0
IsBehind rows row = (i : ℕ) (d : RampRow) → i + 1 ≡ length rows → IsRowBefore (slice_index_or rows i d) row
