-- What reading the certificate's file gave, and the cause of each fault that comes of it. This project's own.
use Rattle.std.specs.Prelude.{◌≡◌, ℕ, ◌^◌, ◌≤◌, ⊤, List, length}
use Rattle.dual_model.specs.Prelude.{Certificate}
use Rattle.outside.specs.declared.slot.Slot.TheVariants as slot
use Rattle.outside.specs.Prelude.{HasRisen, Tells, SlotState}
use Rattle.cert_text.specs.CertificateText.{certificate_text, listing_of}
use Rattle.cert_text.specs.TextConditions.{HasText}
use Rattle.cert_text.specs.Grammar.{IsKindAt}
use Rattle.cert_text.specs.Reading.{IsTextOf}
use Rattle.cert_text.specs.declared.cert.Cert.{Cert}
use Rattle.cert_text.specs.declared.cert.Version.{Version}
use Rattle.cert_text.specs.declared.cert.CertKind.{CertKind}
use Rattle.cert_text.specs.declared.cert.CertKind.TheVariants as kinds
pub use Rattle.report.specs.declared.fault.Fault.{Fault}
pub use Rattle.report.specs.declared.fault.Fault.TheVariants.{Read, Memory, Long, Line}
use Rattle.command_runs.specs.Reading.{IsLong}

-- the most bytes of a certificate's file: 64 TiB
abbrev pub most_certificate_bytes : ℕ
most_certificate_bytes = 2 ^ 46

-- the bytes are the text of the certificate, in some version of the format
pub record IsCertificateText (bytes : List ℕ) (certificate : Certificate) : Type 0 where
  pub version : Version
  pub conditions : HasText version (listing_of certificate)
  pub text : bytes ≡ certificate_text version certificate

-- the file's bytes, where they are told, are at most as many as are read, and the text of the certificate
pub record HasCertificate (file : SlotState) (certificate : Certificate) : Type 0 where
  pub bytes : List ℕ
  pub told : Tells file.left bytes
  pub few : length bytes ≤ most_certificate_bytes
  pub is : IsCertificateText bytes certificate

-- the file's bytes, where they are told, are at most as many as are read, and the text of what was read
pub record HasCertificateText (file : SlotState) (cert : Cert) : Type 0 where
  pub bytes : List ℕ
  pub told : Tells file.left bytes
  pub few : length bytes ≤ most_certificate_bytes
  pub text : IsTextOf bytes cert

-- the number that the line of a fault has for its kind
abbrev pub kind_number : CertKind → ℕ
kind_number kinds.Form = 1
kind_number kinds.Cut = 2
kind_number kinds.Tail = 3

-- the bytes are no certificate's text, and the line is the first at fault
pub record IsFaultyAt (bytes : List ℕ) (line kind : ℕ) : Type 0 where
  pub none : (certificate : Certificate) → ¬ IsCertificateText bytes certificate
  pub what : CertKind
  pub is_kind : kind ≡ kind_number what
  pub first : IsKindAt bytes line what

-- the same of the bytes of the file, where they are told, of which there are no more than are read, and reading them
-- met no fault
pub record HasFaultyLine (old new : SlotState) (line kind : ℕ) : Type 0 where
  pub bytes : List ℕ
  pub told : Tells old.left bytes
  pub few : length bytes ≤ most_certificate_bytes
  pub faulty : IsFaultyAt bytes line kind
  pub calm : new.faults ≡ old.faults

-- the cause of a fault that comes of reading the certificate's file, by the file before and after
abbrev pub HasReadCause : SlotState → SlotState → Fault → Type 0
HasReadCause old new (Read slot.CertIn) = HasRisen old.faults new.faults
HasReadCause old new Memory = ⊤
HasReadCause old new (Long slot.CertIn) = IsLong most_certificate_bytes old new
HasReadCause old new (Line line kind) = HasFaultyLine old new line kind
HasReadCause old new _ = ⊥
