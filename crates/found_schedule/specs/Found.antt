-- What a search lets out: a schedule that obeys, with its cost, in whole watts or, by the exact dispatch, over a denominator; its numbers can be
-- written in a certificate. This project's own form.
use Rattle.std.specs.Prelude.{◌≡◌, ℕ, ◌≤◌, Bool, false, ℤ, IfSome, Option, unsigned_abs}
use Rattle.uc_model.specs.Prelude.{HasShapeOf, cell_at, shed_at, short_at, printed_denominator, printed_schedule, printed_cost, Obeys}
pub use Rattle.uc_model.specs.declared.instance.Instance.{Instance}
use Rattle.uc_model.specs.declared.limits.TheConstants.{COST_MAX, MAX_START_ROWS}
use Rattle.schedule_check.specs.Accepted.{IsAccepted}
use Rattle.schedule_check.specs.PlainNumbers.{IsIdleCell}
use Rattle.schedule_check.specs.SizedNumbers.{IsSized, HasSizedNumbers}
pub use Rattle.schedule_check.specs.SizedNumbers.{Cell, Printed}

-- the category is one that a unit may have, or 0, and an off cell has no number
pub record IsFoundCell (cell : Cell) : Type 0 where
  pub category : cell.category ≤ MAX_START_ROWS
  pub off : cell.on ≡ false → IsIdleCell cell

-- numbers of at most 15 digits, over a denominator of at most 99
pub record HasFoundNumbers (printed : Printed) : Type 0 where
  pub sized : HasSizedNumbers printed
  pub cells : (g t : ℕ) → IsFoundCell (cell_at printed g t)
  pub shed : (t : ℕ) → IsSized (shed_at printed t)
  pub short : (t : ℕ) → IsSized (short_at printed t)
  pub least : 1 ≤ printed.denominator
  pub most : printed.denominator ≤ 99

-- what is printed obeys
abbrev pub IsObeying : Instance → Printed → Type 0
IsObeying instance printed =
    let q = printed_denominator instance printed in
    Obeys instance q (printed_schedule instance printed q)

-- a schedule of the instance that obeys, with its printed cost; where no exact dispatch is let out, in whole watts
pub record IsFound (exact_dispatch : Bool) (instance : Instance) (printed : Printed) (cost : ℤ) : Type 0 where
  pub shape : HasShapeOf instance printed
  pub obeys : IsObeying instance printed
  pub cost_is : cost ≡ printed_cost instance printed
  pub numbers : HasFoundNumbers printed
  pub size : unsigned_abs cost ≤ COST_MAX
  pub whole : exact_dispatch ≡ false → IsAccepted instance printed cost

-- a schedule that may be missing
abbrev pub IsFoundIfAny : Bool → Instance → Option (Printed × ℤ) → Type 0
IsFoundIfAny exact_dispatch instance found = IfSome found (λ pair. IsFound exact_dispatch instance pair.0 pair.1)
