-- What the walk over the nodes of a certificate asks of it, and answers. This project's own.
use Rattle.std.specs.Prelude.{◌≡◌, ℕ, suc, Option, Some, None, All, map, length}
use Rattle.dual_model.specs.Prelude.{IsLawfulTable}
use Rattle.cert_text.specs.CertificateText.{IsNodeWithin}
use Rattle.cert_text.specs.Reading.{node_of}
use Rattle.cert_check.specs.Visits.{Instance, Visit, IsSound}
use Rattle.cert_check.specs.Refusals.{Refusal, IsFirstUnsound, refusal_of}
use Rattle.cert_check.specs.inside.Steps.{Cert, FitsInstance}
use Rattle.cert_check.specs.inside.Walks.{all_visits}

-- the certificate has the instance's size, lawful tables, and nodes that name what there is
pub record AreCheckable (instance : Instance) (cert : Cert) : Type 0 where
  pub size : FitsInstance instance cert
  pub tables : All (IsLawfulTable instance) cert.tables
  pub nodes : All (IsNodeWithin cert.periods cert.thermal (length cert.tables)) (map node_of cert.tree)

-- the code of the first node that isn't sound
pub record IsCodeOf (instance : Instance) (cert : Cert) (code : Refusal) : Type 0 where
  pub index : ℕ
  pub visit : Visit
  pub first : IsFirstUnsound instance cert.tables cert.bound (all_visits cert.tree) index visit
  pub is_code : code ≡ refusal_of visit.node (suc index)

abbrev pub IsFirstCode : Instance → Cert → Option Refusal → Type 0
IsFirstCode instance cert None = All (IsSound instance cert.tables cert.bound) (all_visits cert.tree)
IsFirstCode instance cert (Some code) = IsCodeOf instance cert code
