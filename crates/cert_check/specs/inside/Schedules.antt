-- What the check of a certificate's schedule answers. This project's own.
use Rattle.std.specs.Prelude.{◌≡◌, ℤ, Option, Some, None}
use Rattle.uc_model.specs.Prelude.{printed_denominator, printed_schedule}
use Rattle.uc_model.specs.declared.refusal.Refusal.TheVariants as codes
use Rattle.dual_model.specs.Prelude.{WrittenSchedule, ScheduleHolds}
use Rattle.schedule_check.specs.FirstBroken.{IsFirstBroken}
use Rattle.cert_check.specs.Refusals.{Instance, Refusal, Miscosts}

-- the schedule holds, and that is its cost
abbrev pub IsCostOf : Instance → Option WrittenSchedule → Option ℤ → Type 0
IsCostOf instance None cost = cost ≡ None
IsCostOf instance (Some written) cost = ScheduleHolds instance written × (cost ≡ Some written.cost)

-- the code says why it doesn't hold
abbrev pub IsScheduleFault : Instance → Option WrittenSchedule → Refusal → Type 0
IsScheduleFault instance None code = ⊥
IsScheduleFault instance (Some written) (codes.C2 rule unit period) =
    let q = printed_denominator instance written.printed in
    IsFirstBroken instance q (printed_schedule instance written.printed q) (record { rule = rule; unit = unit; period = period })
IsScheduleFault instance (Some written) (codes.C3 cost computed) = Miscosts instance written cost computed
IsScheduleFault instance (Some written) (codes.C1 table) = ⊥
IsScheduleFault instance (Some written) (codes.C4 node) = ⊥
IsScheduleFault instance (Some written) (codes.C5 node) = ⊥
IsScheduleFault instance (Some written) (codes.C6 node) = ⊥
IsScheduleFault instance (Some written) (codes.C7 node) = ⊥
IsScheduleFault instance (Some written) codes.C8 = ⊥
IsScheduleFault instance (Some written) codes.C9 = ⊥
IsScheduleFault instance (Some written) codes.C10 = ⊥
