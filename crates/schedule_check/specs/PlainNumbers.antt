-- The numbers that a dispatch or a repair has: none is below 0, and none is above the limit on a power. This project's own.
use Rattle.std.specs.Prelude.{◌≡◌, ℕ, ◌≤◌, false, pos, ◌+ℤ◌, ◌≤ℤ◌}
use Rattle.uc_model.specs.Prelude.{cell_at, shed_at, short_at, IsPower, IsLimit}
use Rattle.uc_model.specs.declared.limits.TheConstants.{MAX_START_ROWS}
pub use Rattle.uc_model.specs.declared.schedule.Printed.{Printed}
use Rattle.schedule_check.specs.SizedNumbers.{Cell, output_at}

-- an off cell has no number
pub record IsIdleCell (cell : Cell) : Type 0 where
  pub output : cell.p ≡ pos 0
  pub reserve : cell.r ≡ pos 0
  pub category : cell.category ≡ 0

-- output and reserve together are within the limit, and the category is one that a unit may have, or 0
pub record IsPlainCell (cell : Cell) : Type 0 where
  pub output : pos 0 ≤ℤ cell.p
  pub reserve : pos 0 ≤ℤ cell.r
  pub total : IsPower (cell.p +ℤ cell.r)
  pub category : cell.category ≤ MAX_START_ROWS
  pub off : cell.on ≡ false → IsIdleCell cell

-- each cell, each renewable unit's output, and what is missing; where the schedule has none they are 0
pub record HasPlainNumbers (printed : Printed) : Type 0 where
  pub cells : (g t : ℕ) → IsPlainCell (cell_at printed g t)
  pub outputs : (w t : ℕ) → IsLimit (output_at printed w t)
  pub shed : (t : ℕ) → IsLimit (shed_at printed t)
  pub short : (t : ℕ) → IsLimit (short_at printed t)
