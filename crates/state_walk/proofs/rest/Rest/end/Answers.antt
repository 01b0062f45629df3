-- Both ends are the outputs before the end of a run.
use Rattle.std.proofs.Common.{arith}
use Rattle.uc_model.proofs.Common.{narrow}
use Rattle.state_walk.proofs.RestSizes.{ends-size}
use Rattle.state_walk.proofs.Rests.{ended}
use Rattle.state_walk.proofs.rest.Rest.end.Goals as goal

pub returns : goal.returns
returns c = grind (arith, ends-size, narrow, ended, c)
