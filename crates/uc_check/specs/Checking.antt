-- What a run of `check` did, by how it ended. This project's own.
use Rattle.std.specs.Prelude.{◌≡◌, ℕ, ◌⊎◌, true, false, List, Option, Some, None, pos, ◌*ℤ◌, ◌≤ℤ◌}
use Rattle.uc_model.specs.Prelude.{cost, Obeys, printed_denominator, printed_schedule}
use Rattle.uc_model.specs.declared.refusal.Refusal.{Refusal}
use Rattle.uc_model.specs.declared.instance.Instance.{Instance}
use Rattle.dual_model.specs.Prelude.{Certificate, CertificateHolds, WrittenSchedule, IsClaimTrue}
use Rattle.outside.specs.declared.slot.Slot.TheVariants as slot
use Rattle.outside.specs.Prelude.{SlotState}
use Rattle.outside.specs.declared.slot.Slot.{Slot}
use Rattle.branch_tree.specs.declared.found.Found.{Found}
use Rattle.cert_check.specs.Answers.{cost_of, is_none}
use Rattle.cert_check.specs.Refusals.{IsRefusedBy}
use Rattle.report.specs.ClaimsReport.{claims_report}
pub use Rattle.report.specs.declared.fault.Fault.{Fault}
pub use Rattle.report.specs.declared.fault.Fault.TheVariants.{Write, Code}
use Rattle.command_line.specs.Command.{Check}
use Rattle.command_runs.specs.Prelude.{Outside, most_bytes, HasInstance, HasCause, IsOpenedByNoOther, IsOnlyRead, most_certificate_bytes, HasCertificate, HasReadCause, IsTold, FailsToTell, Ends}
use Rattle.command_runs.specs.declared.input.ReadOptions.{ReadOptions}
use Rattle.command_runs.specs.declared.ending.End.{End}

-- how the instance is read: a rounded number isn't refused
abbrev pub check_options : Check → ReadOptions
check_options asked = record { exact = false; shed = asked.shed; spill_reserve = asked.spill_reserve }

-- the schedule that is written obeys, and costs at most what is written
pub record IsScheduleTrue (instance : Instance) (written : WrittenSchedule) : Type 0 where
  pub obeys :
      let q = printed_denominator instance written.printed in
      Obeys instance q (printed_schedule instance written.printed q)
  pub costs :
      let q = printed_denominator instance written.printed in
      cost instance q (printed_schedule instance written.printed q) ≤ℤ (pos q *ℤ written.cost)

-- the certificate in the one file holds for the instance in the other, and so what it claims is true
pub record IsVerified (asked : Check) (files : Slot → SlotState) (certificate : Certificate) : Type 0 where
  pub instance : Instance
  pub rounded : ℕ
  pub read : HasInstance (check_options asked) (files slot.Instance) instance rounded
  pub is : HasCertificate (files slot.CertIn) certificate
  pub holds : CertificateHolds instance certificate
  pub claim : IsClaimTrue instance certificate.bound
  pub schedule : (written : WrittenSchedule) → certificate.schedule ≡ Some written → IsScheduleTrue instance written

-- the report of what the certificate claims
abbrev pub text_of_claims : Certificate → List ℕ
text_of_claims certificate = claims_report (cost_of certificate.schedule) certificate.bound (is_none certificate.bound)

-- ---- faults

-- the certificate in the file doesn't hold for the instance, for which it is refused by the code, and reading it met
-- no fault
pub record HasRefusedCertificate (instance : Instance) (old new : SlotState) (code : Refusal) : Type 0 where
  pub certificate : Certificate
  pub is : HasCertificate old certificate
  pub refused : IsRefusedBy instance certificate code
  pub fails : ¬ CertificateHolds instance certificate
  pub calm : new.faults ≡ old.faults

-- the cause of a fault that comes of the certificate: it could not be read, or was refused
abbrev pub HasCertificateCause : Instance → SlotState → SlotState → Fault → Type 0
HasCertificateCause instance old new (Code code) = HasRefusedCertificate instance old new code
HasCertificateCause instance old new fault = HasReadCause old new fault

-- a fault of the instance's file ended the run before the certificate's was opened
pub record IsInstanceFault (asked : Check) (before after : Outside) (fault : Fault) : Type 0 where
  pub cause : HasCause (check_options asked) (before.files slot.Instance) (after.files slot.Instance) fault
  pub untouched : after.files slot.CertIn ≡ before.files slot.CertIn

-- the instance was read, and a fault of the certificate ended the run
pub record IsCertificateFault (asked : Check) (before after : Outside) (fault : Fault) : Type 0 where
  pub instance : Instance
  pub rounded : ℕ
  pub read : HasInstance (check_options asked) (before.files slot.Instance) instance rounded
  pub calm : (after.files slot.Instance).faults ≡ (before.files slot.Instance).faults
  pub cause : HasCertificateCause instance (before.files slot.CertIn) (after.files slot.CertIn) fault

-- a fault ended the run before anything was written
pub record IsCheckStopped (asked : Check) (before after : Outside) (fault : Fault) : Type 0 where
  pub cause : IsInstanceFault asked before after fault ⊎ IsCertificateFault asked before after fault
  pub out : after.out ≡ before.out

-- the certificate holds, and the report could not be written
pub record IsCheckUntold (asked : Check) (before after : Outside) : Type 0 where
  pub certificate : Certificate
  pub verified : IsVerified asked before.files certificate
  pub report : FailsToTell (text_of_claims certificate) before.out after.out

-- how a run of `check` ended with a fault
abbrev pub IsCheckFailure : Check → Outside → Outside → Fault → Option Found → Type 0
IsCheckFailure asked before after (Write true) None = IsCheckUntold asked before after
IsCheckFailure asked before after fault None = IsCheckStopped asked before after fault
IsCheckFailure asked before after fault (Some found) = ⊥

-- ---- the run

-- each slot that isn't unopened was opened by its name in the words, instance and certificate are only read, and no
-- certificate is written
pub record KeepsToInput (asked : Check) (before after : Outside) : Type 0 where
  pub instance : IsOpenedByNoOther asked.instance (before.files slot.Instance) (after.files slot.Instance)
  pub instance_read : IsOnlyRead most_bytes (before.files slot.Instance) (after.files slot.Instance)
  pub certificate : IsOpenedByNoOther asked.certificate (before.files slot.CertIn) (after.files slot.CertIn)
  pub certificate_read : IsOnlyRead most_certificate_bytes (before.files slot.CertIn) (after.files slot.CertIn)
  pub other : after.files slot.CertOut ≡ before.files slot.CertOut

-- the certificate holds, its claims are told, and no fault is
pub record IsAcceptance (asked : Check) (before after : Outside) : Type 0 where
  pub certificate : Certificate
  pub verified : IsVerified asked before.files certificate
  pub told : IsTold (text_of_claims certificate) before.out after.out
  pub calm : (s : Slot) → (after.files s).faults ≡ (before.files s).faults

-- the run accepted the certificate
pub record IsAccepting (asked : Check) (before after : Outside) (end : End) : Type 0 where
  pub code : end.code ≡ 0
  pub nothing : end.found ≡ None
  pub unrolled : end.rolled ≡ None
  pub done : IsAcceptance asked before after

-- a run of `check`
pub record IsCheckRun (asked : Check) (before after : Outside) (end : End) : Type 0 where
  pub files : KeepsToInput asked before after
  pub ended : Ends (IsAccepting asked before after) (IsCheckFailure asked before after) before.err after.err end
