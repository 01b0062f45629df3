-- At a fault of `flush` the whole text was written.
use Rattle.std.proofs.lemmas.Result.{on_err_weaker}
use Rattle.command_runs.proofs.Telling.{unflushed}
use Rattle.uc_cli.proofs.rolling.tell.Goals as goal

pub returns-clause-failed : goal.returns-clause-failed
returns-clause-failed g c =
    on_err_weaker c.flush.result (unflushed _ _ _ _ c.in_ok-write_rolled.ensures.ok) c.flush.ensures.failed
