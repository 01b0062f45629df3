-- The run ended with an answer, or with a fault that it told.
use Rattle.std.proofs.Common.{arith}
use Rattle.command_runs.proofs.Endings.{ended}
use Rattle.uc_cli.proofs.demo.demo.Goals as goal

pub returns : goal.returns
returns g c = grind (arith, ended, g, c)
