-- What a run of `upgrade` did, by how it ended. This project's own.
use Rattle.std.specs.Prelude.{◌≡◌, ◌↔◌, ℕ, ◌≤◌, true, false, List, Option, Some, None, length}
use Rattle.dual_model.specs.Prelude.{Certificate}
use Rattle.outside.specs.declared.slot.Slot.TheVariants as slot
use Rattle.outside.specs.Prelude.{SlotState}
use Rattle.outside.specs.declared.slot.Slot.{Slot}
use Rattle.branch_tree.specs.declared.found.Found.{Found}
use Rattle.cert_text.specs.CertificateText.{written_text}
use Rattle.report.specs.UpgradeReport.{upgrade_report}
use Rattle.report.specs.declared.fault.Fault.{Fault}
use Rattle.report.specs.declared.fault.Fault.TheVariants.{Write}
use Rattle.command_line.specs.Command.{Check, Upgrade}
use Rattle.command_runs.specs.Prelude.{Outside, IsOpenedByNoOther, IsOnlyRead, IsSaved, FailsToSave, IsTold, FailsToTell, most_certificate_bytes, IsCertificateText, HasCertificate, HasReadCause, Ends}
use Rattle.command_runs.specs.declared.ending.End.{End}
use Rattle.uc_check.specs.Checking.{IsCheckRun}

-- ---- two texts of one certificate
-- Each certificate has both texts or neither. So one that holds for an instance has the one exactly where it has the other.
abbrev pub TellTheSame : List ℕ → List ℕ → Type 0
TellTheSame one other = (certificate : Certificate) → IsCertificateText one certificate ↔ IsCertificateText other certificate

-- the outside, with these bytes left in the file of the certificate that is read
abbrev pub with_left : List ℕ → (Slot → SlotState) → Slot → SlotState
with_left bytes files slot.CertIn = record (files slot.CertIn) { left = Some bytes }
with_left bytes files slot.Instance = files slot.Instance
with_left bytes files slot.CertOut = files slot.CertOut

abbrev pub leaving : List ℕ → Outside → Outside
leaving bytes state = record state { files = with_left bytes state.files }

-- For each run of `check` on a certificate of the one text there may be one on the other text that ends as it does: with the same status,
-- output and line on the error output. Some of the text may be left then.
abbrev pub IsCheckedAs : List ℕ → List ℕ → Type 0
IsCheckedAs one other =
    (asked : Check) (before after : Outside) (end : End) → (before.files slot.CertIn).left ≡ Some one
    → IsCheckRun asked before after end → (rest : List ℕ) × IsCheckRun asked (leaving other before) (leaving rest after) end

-- the one is checked as the other, and the other as the one
pub record AreCheckedAlike (one other : List ℕ) : Type 0 where
  pub forth : IsCheckedAs one other
  pub back : IsCheckedAs other one

-- ---- what was done
-- The certificate in the one file is saved in the other, in the version in which it is written, and no fault was counted. Both texts tell
-- the same, and where the new one isn't too long to be checked, they are checked alike.
pub record IsRewritten (before after : Slot → SlotState) : Type 0 where
  pub certificate : Certificate
  pub is : HasCertificate (before slot.CertIn) certificate
  pub saved : IsSaved (written_text certificate) (before slot.CertOut) (after slot.CertOut)
  pub same : TellTheSame is.bytes (written_text certificate)
  pub checked : length (written_text certificate) ≤ most_certificate_bytes
      → AreCheckedAlike is.bytes (written_text certificate)
  pub calm : (s : Slot) → (after s).faults ≡ (before s).faults

-- the certificate is rewritten, and that is told
pub record IsUpgraded (before after : Outside) : Type 0 where
  pub rewritten : IsRewritten before.files after.files
  pub told : IsTold upgrade_report before.out after.out

-- ---- faults
-- the certificate was read and could not be written; nothing was written to the output
pub record IsUpgradeUnsaved (before after : Outside) : Type 0 where
  pub certificate : Certificate
  pub is : HasCertificate (before.files slot.CertIn) certificate
  pub text : FailsToSave (written_text certificate) (before.files slot.CertOut) (after.files slot.CertOut)
  pub out : after.out ≡ before.out

-- the certificate is rewritten, and that could not be told
pub record IsUpgradeUntold (before after : Outside) : Type 0 where
  pub rewritten : IsRewritten before.files after.files
  pub report : FailsToTell upgrade_report before.out after.out

-- a fault ended the run before anything was written
pub record IsUpgradeStopped (before after : Outside) (fault : Fault) : Type 0 where
  pub cause : HasReadCause (before.files slot.CertIn) (after.files slot.CertIn) fault
  pub certificate : after.files slot.CertOut ≡ before.files slot.CertOut
  pub out : after.out ≡ before.out

-- how a run of `upgrade` ended with a fault
abbrev pub IsUpgradeFailure : Outside → Outside → Fault → Option Found → Type 0
IsUpgradeFailure before after (Write false) None = IsUpgradeUnsaved before after
IsUpgradeFailure before after (Write true) None = IsUpgradeUntold before after
IsUpgradeFailure before after fault None = IsUpgradeStopped before after fault
IsUpgradeFailure before after fault (Some found) = ⊥

-- ---- the run
-- each slot that isn't unopened was opened by its name in the words, the certificate is only read, and no instance is opened
pub record KeepsToCertificates (asked : Upgrade) (before after : Outside) : Type 0 where
  pub certificate : IsOpenedByNoOther asked.certificate (before.files slot.CertIn) (after.files slot.CertIn)
  pub read : IsOnlyRead most_certificate_bytes (before.files slot.CertIn) (after.files slot.CertIn)
  pub to : IsOpenedByNoOther asked.to (before.files slot.CertOut) (after.files slot.CertOut)
  pub other : after.files slot.Instance ≡ before.files slot.Instance

-- the run upgraded the certificate
pub record IsUpgrading (before after : Outside) (end : End) : Type 0 where
  pub code : end.code ≡ 0
  pub nothing : end.found ≡ None
  pub unrolled : end.rolled ≡ None
  pub done : IsUpgraded before after

-- a run of `upgrade`
pub record IsUpgradeRun (asked : Upgrade) (before after : Outside) (end : End) : Type 0 where
  pub files : KeepsToCertificates asked before after
  pub ended : Ends (IsUpgrading before after) (IsUpgradeFailure before after) before.err after.err end
