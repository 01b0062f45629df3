-- What was read and checked.
use Rattle.std.specs.Prelude.{◌≡◌}
use Rattle.dual_model.specs.Prelude.{Certificate}
use Rattle.outside.specs.declared.slot.Slot.{Slot}
use Rattle.outside.specs.Prelude.{SlotState}
use Rattle.cert_text.specs.CertificateText.{listing_of}
use Rattle.cert_text.specs.Reading.{listing_read}
use Rattle.cert_check.specs.Answers.{AreClaimsOf}
use Rattle.command_line.specs.Command.{Check}
use Rattle.uc_check.specs.Checking.{IsVerified}
pub use Rattle.uc_check.specs.declared.verify.Checked.{Checked}

-- what was read is the instance and the certificate in the files, which holds; the claims are its own; and reading met no fault
pub record IsChecked (asked : Check) (before after : Slot → SlotState) (checked : Checked) : Type 0 where
  pub certificate : Certificate
  pub verified : IsVerified asked before certificate
  pub instance : verified.instance ≡ checked.instance
  pub listed : listing_of certificate ≡ listing_read checked.cert
  pub claimed : AreClaimsOf certificate checked.claims
  pub calm : (s : Slot) → (after s).faults ≡ (before s).faults
