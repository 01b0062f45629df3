-- The run ended with an answer, or with a fault that it told.
use Rattle.command_runs.proofs.Endings.{ended}
use Rattle.uc_cli.proofs.solve.solve.Goals as goal

pub returns : goal.returns
returns g c = record {
  files = c.find_and_write-outcome.ensures.files _ _;
  ended = ended _ _ _ _ _ _ (c.find_and_write-outcome.ensures.done _ _) (c.find_and_write-outcome.ensures.failed _ _) c.end_of.ensures;
}
