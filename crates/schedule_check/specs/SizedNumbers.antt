-- Numbers of at most 15 digits, which those of a printed schedule have. This project's own limit.
use Rattle.std.specs.Prelude.{ℕ, ◌<◌, [], ℤ, pos, unsigned_abs, slice_index_or}
use Rattle.uc_model.specs.Prelude.{cell_at}
pub use Rattle.uc_model.specs.declared.schedule.Cell.{Cell}
pub use Rattle.uc_model.specs.declared.schedule.Printed.{Printed}

-- below 10^15 in size
abbrev pub IsSized : ℤ → Type 0
IsSized z = unsigned_abs z < 1000000000000000

pub record IsSizedCell (cell : Cell) : Type 0 where
  pub output : IsSized cell.p
  pub reserve : IsSized cell.r

-- the output of renewable unit w in period t; where the schedule has none, 0
abbrev pub output_at : Printed → ℕ → ℕ → ℤ
output_at printed w t = slice_index_or (slice_index_or printed.renewable w []) t (pos 0)

-- each output and reserve of the schedule is below 10^15 in size
pub record HasSizedNumbers (printed : Printed) : Type 0 where
  pub thermal : (g t : ℕ) → IsSizedCell (cell_at printed g t)
  pub renewable : (w t : ℕ) → IsSized (output_at printed w t)
