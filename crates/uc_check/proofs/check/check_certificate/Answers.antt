-- The run accepted the certificate, or ended with a fault that it told.
use Rattle.command_runs.proofs.Endings.{ended}
use Rattle.uc_check.proofs.check.check_certificate.Goals as goal

pub returns : goal.returns
returns g c = record {
  files = c.verify_and_tell-outcome.ensures.files _ _;
  ended = ended _ _ _ _ _ _ (c.verify_and_tell-outcome.ensures.done _ _) (c.verify_and_tell-outcome.ensures.failed _ _) c.end_of.ensures;
}
