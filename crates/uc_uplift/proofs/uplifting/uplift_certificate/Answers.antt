-- The run told uplifts, or ended with a fault that it told.
use Rattle.command_runs.proofs.Endings.{ended}
use Rattle.uc_uplift.proofs.uplifting.uplift_certificate.Goals as goal

pub returns : goal.returns
returns g c = record {
  files = c.uplift_and_tell-outcome.ensures.files _ _;
  ended = ended _ _ _ _ _ _ (c.uplift_and_tell-outcome.ensures.done _ _) (c.uplift_and_tell-outcome.ensures.failed _ _) c.end_of.ensures;
}
