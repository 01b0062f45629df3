-- How the ends of a run of `check` follow from its steps: reading the instance (from the files f to g), reading the
-- certificate (from g to h), checking it, and the report.
use Rattle.std.proofs.Common.{arith, ◌≡◌, ℕ, true, subst, ap, ◌∙◌, refl, Some, None, List}
use Rattle.uc_model.specs.Prelude.{IsLawfulInstance}
use Rattle.uc_model.proofs.Common.{cost-le-printed}
use Rattle.uc_model.specs.declared.instance.Instance.{Instance}
use Rattle.dual_model.specs.Prelude.{Certificate, CertificateHolds, WrittenSchedule, IsClaimTrue}
use Rattle.outside.specs.declared.slot.Slot.TheVariants as slot
use Rattle.outside.specs.Prelude.{SlotState, SameBut, SinkState}
use Rattle.outside.specs.declared.slot.Slot.{Slot}
use Rattle.cert_text.specs.Reading.{IsTextOf}
use Rattle.cert_text.specs.declared.cert.Cert.{Cert}
use Rattle.cert_check.specs.Answers.{AreClaimsOf, IsAccepted, IsRead}
use Rattle.cert_check.specs.declared.claims.Claims.{Claims}
use Rattle.report.specs.ClaimsReport.{claims_report}
use Rattle.report.specs.declared.fault.Fault.{Fault}
use Rattle.report.specs.declared.fault.Fault.TheVariants.{Memory}
use Rattle.command_line.specs.Command.{Check}
use Rattle.command_runs.specs.Prelude.{Outside, outside_of, HasInstance, HasCertificate, HasCertificateText, HasReadCause}
use Rattle.uc_check.specs.Checking.{Code, Write, check_options, HasCertificateCause, IsCertificateFault, IsCheckFailure, IsCheckStopped, IsScheduleTrue, text_of_claims}
use Rattle.uc_check.specs.Checks.{IsChecked}
use Rattle.uc_check.specs.inside.Refusals.{IsRefusedCert}

-- what was read has a text
pub is_read : (bytes : List ℕ) (cert : Cert) → IsTextOf bytes cert → IsRead cert
is_read bytes cert text = record { version = text.version; certificate = text.certificate; listed = text.listed; conditions = text.conditions }

pub in_file : (file : SlotState) (cert : Cert) → (text : HasCertificateText file cert) → HasCertificate file text.text.certificate
in_file file cert text = grind arith

-- a schedule of a certificate that holds is one, and costs no more than is written
pub schedule_true : (instance : Instance) (certificate : Certificate) → IsLawfulInstance instance → CertificateHolds instance certificate
    → (written : WrittenSchedule) → certificate.schedule ≡ Some written → IsScheduleTrue instance written
schedule_true instance certificate lawful holds written is = grind (arith, cost-le-printed, lawful, holds, is)

-- the certificate's slot is as it was before the instance was read
input_same : (f g : Slot → SlotState) → SameBut slot.Instance f g → g slot.CertIn ≡ f slot.CertIn
input_same f g same = same slot.CertIn (λ e. cc)

calm_each : (f g h : Slot → SlotState) → SameBut slot.Instance f g → SameBut slot.CertIn g h
    → (g slot.Instance).faults ≡ (f slot.Instance).faults → (h slot.CertIn).faults ≡ (g slot.CertIn).faults
    → (s : Slot) → (h s).faults ≡ (f s).faults
calm_each f g h first second read checked slot.Instance = ap (λ (s : SlotState). s.faults) (second slot.Instance (λ e. cc)) ∙ read
calm_each f g h first second read checked slot.CertIn = grind (arith, first, second, read, checked)
calm_each f g h first second read checked slot.CertOut = grind (arith, first, second, read, checked)

pub verified : (asked : Check) (f g h : Slot → SlotState) (instance : Instance) (rounded : ℕ) (cert : Cert) (claims : Claims)
    → HasInstance (check_options asked) (f slot.Instance) instance rounded → SameBut slot.Instance f g → SameBut slot.CertIn g h
    → (g slot.Instance).faults ≡ (f slot.Instance).faults → (h slot.CertIn).faults ≡ (g slot.CertIn).faults
    → HasCertificateText (g slot.CertIn) cert → IsAccepted instance cert claims → IsClaimTrue instance claims.bound
    → IsChecked asked f h (record { instance = instance; cert = cert; claims = claims })
verified asked f g h instance rounded cert claims read first second calm checked text accepted claim =
    let c = text.text.certificate in
    let listed = text.text.listed in
    let holds = accepted.holds c listed in
    let claimed = accepted.claimed c listed in
    record {
      certificate = c;
      verified = record {
        instance = instance;
        rounded = rounded;
        read = read;
        is = subst (λ file. HasCertificate file c) (input_same f g first) (in_file (g slot.CertIn) cert text);
        holds = holds;
        claim = subst (IsClaimTrue instance) claimed.bound claim;
        schedule = schedule_true instance c read.lawful holds;
      };
      instance = refl;
      listed = listed;
      claimed = claimed;
      calm = calm_each f g h first second calm checked;
    }

-- where the certificate was read and refused, the one in the file is
pub refused_cause : (f g h : Slot → SlotState) (instance : Instance) (cert : Cert) (fault : Fault)
    → (h slot.CertIn).faults ≡ (g slot.CertIn).faults → HasCertificateText (g slot.CertIn) cert → IsRefusedCert instance cert fault
    → HasCertificateCause instance (g slot.CertIn) (h slot.CertIn) fault
refused_cause f g h instance cert (Code code) checked text refused = grind (arith, code, checked, text, refused)
refused_cause f g h instance cert Memory checked text refused = tt
refused_cause f g h instance cert _ checked text refused = absurd refused

-- a certificate that could not be read is at fault for each instance
pub for_instance : (instance : Instance) (old new : SlotState) (fault : Fault) → HasReadCause old new fault → HasCertificateCause instance old new fault
for_instance instance old new (Code code) cause = absurd cause
for_instance instance old new fault cause = cause

-- a fault of the certificate, whose instance was read before it
pub certificate_fault : (asked : Check) (f g h : Slot → SlotState) (out err_old err_new : SinkState) (instance : Instance) (rounded : ℕ) (fault : Fault)
    → HasInstance (check_options asked) (f slot.Instance) instance rounded → SameBut slot.Instance f g → SameBut slot.CertIn g h
    → (g slot.Instance).faults ≡ (f slot.Instance).faults
    → HasCertificateCause instance (g slot.CertIn) (h slot.CertIn) fault
    → IsCertificateFault asked (outside_of f out err_old) (outside_of h out err_new) fault
certificate_fault asked f g h out err_old err_new instance rounded fault read first second calm cause =
    grind (arith, read, first, second, calm, cause)

-- a run that stopped before anything was written failed
pub stopped_failure : (asked : Check) (before after : Outside) (fault : Fault) → IsCheckStopped asked before after fault
    → IsCheckFailure asked before after fault None
stopped_failure asked before after (Write true) stopped = grind (arith, stopped)
stopped_failure asked before after _ stopped = stopped

-- what holds of the report of the claims, holds of that of the certificate
pub of_claims : (P : List ℕ → Type 0) (c : Certificate) (claims : Claims) → AreClaimsOf c claims
    → P (claims_report claims.cost claims.bound claims.infeasible) → P (text_of_claims c)
of_claims P c claims are p = grind (arith, are, p)
