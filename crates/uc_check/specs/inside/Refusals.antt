-- Why a certificate was not accepted.
use Rattle.std.specs.Prelude.{◌≡◌}
use Rattle.uc_model.specs.declared.instance.Instance.{Instance}
use Rattle.dual_model.specs.Prelude.{Certificate, CertificateHolds}
use Rattle.cert_text.specs.CertificateText.{listing_of}
use Rattle.cert_text.specs.Reading.{listing_read}
use Rattle.cert_text.specs.declared.cert.Cert.{Cert}
use Rattle.cert_check.specs.Refusals.{IsRefusedBy}
use Rattle.report.specs.declared.fault.Fault.TheVariants.{Memory}
use Rattle.uc_check.specs.Checking.{Code, Fault}

abbrev pub IsRefusedCert : Instance → Cert → Fault → Type 0
IsRefusedCert instance cert (Code code) =
    (c : Certificate) → listing_of c ≡ listing_read cert → IsRefusedBy instance c code × (¬ CertificateHolds instance c)
IsRefusedCert instance cert Memory = Unit {0}
IsRefusedCert instance cert _ = ⊥
