-- A fault in reading the slot is one of the certificate's file.
use Rattle.command_runs.proofs.Unread.{certificate_cause}
use Rattle.command_runs.proofs.HandedUp.{handed_up}
use Rattle.command_runs.proofs.certificate.read_certificate.Goals as goal

pub returns-in_err-bytes-clause-cause : goal.returns-in_err-bytes-clause-cause
returns-in_err-bytes-clause-cause g c =
    handed_up c.from_residual.result c.in_err-bytes.field-0.0 _ c.from_residual.ensures.1
    (certificate_cause _ _ c.in_err-bytes.field-0.0 c.in_err-bytes.ensures.cause)
