-- What a run of `uplift` did, by how it ended. This project's own.
use Rattle.std.specs.Prelude.{◌≡◌, ◌≢◌, ℕ, zero, suc, ◌<◌, ◌≤◌, true, List, ℤ, pos, Option, Some, None, slice_get}
pub use Rattle.uc_model.specs.declared.schedule.Printed.{Printed}
use Rattle.uc_model.specs.declared.instance.Instance.{Instance}
use Rattle.dual_model.specs.Prelude.{Certificate, WrittenSchedule}
pub use Rattle.dual_model.specs.declared.table.Table.{Table}
use Rattle.outside.specs.Prelude.{SlotState}
use Rattle.outside.specs.declared.slot.Slot.{Slot}
use Rattle.branch_tree.specs.declared.found.Found.{Found}
use Rattle.uplift.specs.Uplift.{AreUplifts}
pub use Rattle.uplift.specs.declared.uplifts.Uplifts.{Uplifts}
use Rattle.report.specs.UpliftReport.{uplift_report}
pub use Rattle.report.specs.declared.uplift.UpliftNumbers.{UpliftNumbers}
use Rattle.report.specs.declared.fault.Fault.{Fault}
use Rattle.report.specs.declared.fault.Fault.TheVariants.{Write, NoUplift}
pub use Rattle.report.specs.declared.fault.UpliftRefusal.{UpliftRefusal}
use Rattle.report.specs.declared.fault.UpliftRefusal.TheVariants as reasons
use Rattle.command_line.specs.Command.{Uplift}
use Rattle.command_runs.specs.Prelude.{Outside, IsTold, FailsToTell, Ends}
use Rattle.command_runs.specs.declared.ending.End.{End}
use Rattle.uc_check.specs.Checking.{IsVerified, IsCheckStopped, KeepsToInput}

-- ---- what uplifts are of
-- it is the schedule that is written, and its watts are whole: they aren't over a denominator above 1
pub record IsWholeSchedule (schedule : Option WrittenSchedule) (printed : Printed) : Type 0 where
  pub cost : ℤ
  pub is : schedule ≡ Some (record { printed = printed; cost = cost })
  pub whole : printed.denominator ≤ 1

-- its watts are over a denominator above 1
pub record HasFractions (schedule : Option WrittenSchedule) : Type 0 where
  pub written : WrittenSchedule
  pub is : schedule ≡ Some written
  pub fractions : 1 < written.printed.denominator

-- the table of a number, which counts from 1
abbrev pub table_of : List Table → ℕ → Option Table
table_of tables zero = None
table_of tables (suc i) = slice_get tables i

-- it is the table of the number, and no ray
pub record IsPriceTable (tables : List Table) (number : ℕ) (table : Table) : Type 0 where
  pub is : table_of tables number ≡ Some table
  pub scale : table.k ≢ pos 0

-- it is the table of the number, and a ray
pub record IsRayTable (tables : List Table) (number : ℕ) (table : Table) : Type 0 where
  pub is : table_of tables number ≡ Some table
  pub scale : table.k ≡ pos 0

-- why a certificate that holds has no uplifts, by its schedule and its tables: it has no schedule; or one whose watts aren't whole; or
-- else no table of the number; or else that is a ray
abbrev pub HasNoUplifts : Option WrittenSchedule → List Table → ℕ → UpliftRefusal → Type 0
HasNoUplifts schedule tables number reasons.NoSchedule = schedule ≡ None
HasNoUplifts schedule tables number reasons.Fractions = HasFractions schedule
HasNoUplifts schedule tables number reasons.NoTable =
    (printed : Printed) × IsWholeSchedule schedule printed × (table_of tables number ≡ None)
HasNoUplifts schedule tables number reasons.Ray =
    (printed : Printed) × IsWholeSchedule schedule printed × (table : Table) × IsRayTable tables number table

-- the certificate in the one file holds for the instance in the other, and these are the uplifts of its schedule at the prices of its
-- table of the number: each is what it is named for, none is below 0, and the total, the duality gap, is their sum
pub record HasUplifts (asked : Uplift) (files : Slot → SlotState) : Type 0 where
  pub certificate : Certificate
  pub verified : IsVerified asked.check files certificate
  pub printed : Printed
  pub schedule : IsWholeSchedule certificate.schedule printed
  pub table : Table
  pub prices : IsPriceTable certificate.tables asked.table table
  pub uplifts : Uplifts
  pub are : AreUplifts verified.instance printed table uplifts

-- the report of uplifts
abbrev pub told_numbers : Uplifts → UpliftNumbers
told_numbers uplifts = record {
  thermal = uplifts.thermal;
  renewable = uplifts.renewable;
  shed = uplifts.shed;
  reserve_slack = uplifts.reserve_slack;
  ramp_slack = uplifts.ramp_slack;
  total = uplifts.total;
}

abbrev pub text_of_uplifts : Instance → Table → Uplifts → List ℕ
text_of_uplifts instance table uplifts = uplift_report instance table (told_numbers uplifts)

-- ---- faults
-- the certificate has uplifts, and they could not be told
pub record AreUpliftsUntold (asked : Uplift) (before after : Outside) : Type 0 where
  pub has : HasUplifts asked before.files
  pub report : FailsToTell (text_of_uplifts has.verified.instance has.table has.uplifts) before.out after.out

-- the certificate holds and has no uplifts, for this reason; nothing was written to the output, and no fault was counted
pub record IsWithoutUplifts (asked : Uplift) (before after : Outside) (refusal : UpliftRefusal) : Type 0 where
  pub certificate : Certificate
  pub verified : IsVerified asked.check before.files certificate
  pub why : HasNoUplifts certificate.schedule certificate.tables asked.table refusal
  pub calm : (s : Slot) → (after.files s).faults ≡ (before.files s).faults
  pub out : after.out ≡ before.out

-- how a run of `uplift` ended with a fault; but for these two it is one at which `check` would have ended
abbrev pub IsUpliftFailure : Uplift → Outside → Outside → Fault → Option Found → Type 0
IsUpliftFailure asked before after (Write true) None = AreUpliftsUntold asked before after
IsUpliftFailure asked before after (NoUplift refusal) None = IsWithoutUplifts asked before after refusal
IsUpliftFailure asked before after fault None = IsCheckStopped asked.check before after fault
IsUpliftFailure asked before after fault (Some found) = ⊥

-- ---- the run
-- the certificate has uplifts, they are told, and no fault is
pub record AreUpliftsTold (asked : Uplift) (before after : Outside) : Type 0 where
  pub has : HasUplifts asked before.files
  pub told : IsTold (text_of_uplifts has.verified.instance has.table has.uplifts) before.out after.out
  pub calm : (s : Slot) → (after.files s).faults ≡ (before.files s).faults

-- the run told uplifts
pub record IsUplifting (asked : Uplift) (before after : Outside) (end : End) : Type 0 where
  pub code : end.code ≡ 0
  pub nothing : end.found ≡ None
  pub unrolled : end.rolled ≡ None
  pub done : AreUpliftsTold asked before after

-- a run of `uplift`, which keeps to the files that `check` reads
pub record IsUpliftRun (asked : Uplift) (before after : Outside) (end : End) : Type 0 where
  pub files : KeepsToInput asked.check before after
  pub ended : Ends (IsUplifting asked before after) (IsUpliftFailure asked before after) before.err after.err end
