-- What the check of a certificate answers. This project's own format.
use Rattle.std.specs.Prelude.{◌≡◌, Bool, true, false, ℤ, Option, Some, None}
pub use Rattle.uc_model.specs.declared.instance.Instance.{Instance}
use Rattle.dual_model.specs.Prelude.{Certificate, CertificateHolds, WrittenSchedule}
use Rattle.cert_text.specs.CertificateText.{listing_of}
use Rattle.cert_text.specs.TextConditions.{HasText}
use Rattle.cert_text.specs.Reading.{listing_read}
pub use Rattle.cert_text.specs.declared.cert.Cert.{Cert}
use Rattle.cert_text.specs.declared.cert.Version.{Version}
use Rattle.cert_check.specs.Refusals.{IsRefusedBy}
use Rattle.cert_check.specs.declared.claims.Claims.{Claims}
use Rattle.cert_check.specs.declared.claims.CheckFault.{CheckFault}
use Rattle.cert_check.specs.declared.claims.CheckFault.TheVariants as faults

-- the listing is that of a certificate with a text in some version
pub record IsRead (cert : Cert) : Type 0 where
  pub version : Version
  pub certificate : Certificate
  pub listed : listing_of certificate ≡ listing_read cert
  pub conditions : HasText version (listing_of certificate)

abbrev pub cost_of : Option WrittenSchedule → Option ℤ
cost_of None = None
cost_of (Some written) = Some written.cost

abbrev pub is_none : Option ℤ → Bool
is_none None = true
is_none (Some b) = false

-- what the certificate claims: its schedule's cost, its bound, or that there is no schedule
pub record AreClaimsOf (c : Certificate) (claims : Claims) : Type 0 where
  pub cost : claims.cost ≡ cost_of c.schedule
  pub bound : claims.bound ≡ c.bound
  pub infeasible : claims.infeasible ≡ is_none c.bound

pub record IsAccepted (instance : Instance) (cert : Cert) (claims : Claims) : Type 0 where
  pub holds : (c : Certificate) → listing_of c ≡ listing_read cert → CertificateHolds instance c
  pub claimed : (c : Certificate) → listing_of c ≡ listing_read cert → AreClaimsOf c claims

-- the certificate is refused by the code, and so doesn't hold; that memory was refused says nothing of it
abbrev pub IsFaultOf : Instance → Cert → CheckFault → Type 0
IsFaultOf instance cert (faults.Refused code) =
    (c : Certificate) → listing_of c ≡ listing_read cert → IsRefusedBy instance c code × (¬ CertificateHolds instance c)
IsFaultOf instance cert faults.NoMemory = Unit {0}
