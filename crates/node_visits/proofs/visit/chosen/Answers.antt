-- Where there is no exact dispatch, any table serves.
use Rattle.std.proofs.Common.{arith}
use Rattle.std.proofs.lemmas.Result.{IfOk-weaker}
use Rattle.node_visits.proofs.visit.chosen.Goals as goal

pub returns-in-None-clause-trial : goal.returns-in-None-clause-trial
returns-in-None-clause-trial c = grind (arith, IfOk-weaker, c)
