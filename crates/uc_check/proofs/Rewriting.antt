-- How the ends of a run of `upgrade` follow from its steps: reading the certificate (from the files f to g), writing it anew (from g to
-- h), and the report.
use Rattle.std.proofs.Common.{arith, ◌≡◌, ◌∙◌, refl, ap, subst, None}
use Rattle.outside.specs.declared.slot.Slot.TheVariants as slot
use Rattle.outside.specs.Prelude.{SlotState, SameBut, SinkState}
use Rattle.outside.specs.declared.slot.Slot.{Slot}
use Rattle.cert_text.specs.CertificateText.{listing_of, written_text, written_version}
use Rattle.cert_text.proofs.Parts.{written_text_is}
use Rattle.cert_text.specs.declared.cert.Cert.{Cert}
use Rattle.command_line.specs.Command.{Upgrade}
use Rattle.command_runs.specs.Prelude.{outside_of, IsOpenedByNoOther, IsOnlyRead, IsSaved, FailsToSave, most_certificate_bytes, HasCertificateText, IsCertificateText, HasReadCause}
use Rattle.uc_check.specs.Checking.{Fault, Write}
use Rattle.uc_check.specs.Upgrading.{IsRewritten, IsUpgradeFailure, IsUpgradeUnsaved, KeepsToCertificates}
use Rattle.uc_check.proofs.SameTexts.{tell_the_same}
use Rattle.uc_check.proofs.CheckedAlike.{checked_as}
use Rattle.uc_check.proofs.Verdicts.{in_file}

-- the slot that is written is as it was before the certificate was read
output_same : (f g : Slot → SlotState) → SameBut slot.CertIn f g → g slot.CertOut ≡ f slot.CertOut
output_same f g same = same slot.CertOut (λ e. cc)

instance_same : (f g h : Slot → SlotState) → SameBut slot.CertIn f g → SameBut slot.CertOut g h → h slot.Instance ≡ f slot.Instance
instance_same f g h first second = second slot.Instance (λ e. cc) ∙ first slot.Instance (λ e. cc)

calm_each : (f g h : Slot → SlotState) → SameBut slot.CertIn f g → SameBut slot.CertOut g h
    → (g slot.CertIn).faults ≡ (f slot.CertIn).faults → (h slot.CertOut).faults ≡ (g slot.CertOut).faults
    → (s : Slot) → (h s).faults ≡ (f s).faults
calm_each f g h first second read written slot.Instance = ap (λ (s : SlotState). s.faults) (instance_same f g h first second)
calm_each f g h first second read written slot.CertIn = ap (λ (s : SlotState). s.faults) (second slot.CertIn (λ e. cc)) ∙ read
calm_each f g h first second read written slot.CertOut = written ∙ ap (λ (s : SlotState). s.faults) (output_same f g first)

pub rewritten : (f g h : Slot → SlotState) (cert : Cert) → (text : HasCertificateText (f slot.CertIn) cert)
    → SameBut slot.CertIn f g → SameBut slot.CertOut g h → (g slot.CertIn).faults ≡ (f slot.CertIn).faults
    → IsSaved (written_text text.text.certificate) (g slot.CertOut) (h slot.CertOut) → IsRewritten f h
rewritten f g h cert text first second calm saved =
    let c = text.text.certificate in
    let new = written_text c in
    let is = in_file (f slot.CertIn) cert text in
    let anew : IsCertificateText new c = record { version = written_version (listing_of c); conditions = written_text_is text.text.version c text.text.conditions; text = refl } in
    record {
      certificate = c;
      is = is;
      saved = subst (λ s. IsSaved new s (h slot.CertOut)) (output_same f g first) saved;
      same = tell_the_same is.bytes new c is.is anew;
      checked = λ few. record {
        forth = checked_as c is.bytes new is.is (tell_the_same is.bytes new c is.is anew) is.few few;
        back = checked_as c new is.bytes anew (tell_the_same new is.bytes c anew is.is) few is.few;
      };
      calm = calm_each f g h first second calm saved.calm;
    }

pub unsaved : (f g h : Slot → SlotState) (out err_old err_new : SinkState) (cert : Cert) → (text : HasCertificateText (f slot.CertIn) cert)
    → SameBut slot.CertIn f g → FailsToSave (written_text text.text.certificate) (g slot.CertOut) (h slot.CertOut)
    → IsUpgradeUnsaved (outside_of f out err_old) (outside_of h out err_new)
unsaved f g h out err_old err_new cert text first fails = grind (arith, first, fails)

-- a fault before anything was written
pub unread : (f g : Slot → SlotState) (out err_old err_new : SinkState) (fault : Fault) → HasReadCause (f slot.CertIn) (g slot.CertIn) fault
    → SameBut slot.CertIn f g → IsUpgradeFailure (outside_of f out err_old) (outside_of g out err_new) fault None
unread f g out err_old err_new (Write _) cause first = absurd cause
unread f g out err_old err_new fault cause first = grind (arith, cause, first)

pub keeps : (asked : Upgrade) (f g h : Slot → SlotState) (out_old out_new err_old err_new : SinkState)
    → IsOpenedByNoOther asked.certificate (f slot.CertIn) (g slot.CertIn) → IsOnlyRead most_certificate_bytes (f slot.CertIn) (g slot.CertIn)
    → SameBut slot.CertIn f g → IsOpenedByNoOther asked.to (g slot.CertOut) (h slot.CertOut) → SameBut slot.CertOut g h
    → KeepsToCertificates asked (outside_of f out_old err_old) (outside_of h out_new err_new)
keeps asked f g h out_old out_new err_old err_new named read first to second = grind (arith, named, read, first, second)
