-- A schedule of an instance's first periods that obeys every rule of these. This project's own statement.
use Rattle.std.specs.Prelude.{◌≡◌, ℕ, ◌≤◌}
use Rattle.uc_model.specs.Prelude.{HasShapeOf, printed_denominator, printed_schedule, Obeys}
pub use Rattle.uc_model.specs.declared.schedule.Printed.{Printed}
use Rattle.schedule_check.specs.PlainNumbers.{HasPlainNumbers}
use Rattle.roll.specs.FirstPeriods.{Instance, first_periods}

-- the schedule that a printed one stands for obeys
abbrev pub PrintedObeys : Instance → Printed → Type 0
PrintedObeys instance printed =
    let q = printed_denominator instance printed in
    Obeys instance q (printed_schedule instance printed q)

-- a schedule of the first n periods in whole watts, which obeys the instance cut to them
pub record ObeysFirst (instance : Instance) (n : ℕ) (kept : Printed) : Type 0 where
  pub shape : HasShapeOf (first_periods n instance) kept
  pub whole : kept.denominator ≡ 1
  pub obeys : PrintedObeys (first_periods n instance) kept

-- what is kept of the windows so far, of which there may be none: a schedule of the first n periods
pub record IsKept (instance : Instance) (n : ℕ) (kept : Printed) : Type 0 where
  pub within : n ≤ instance.periods
  pub shape : HasShapeOf (first_periods n instance) kept
  pub whole : kept.denominator ≡ 1
  pub numbers : HasPlainNumbers kept
  pub obeys : 1 ≤ n → PrintedObeys (first_periods n instance) kept
