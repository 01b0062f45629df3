-- At a fault of `finish` the whole text was written to the slot.
use Rattle.std.proofs.Common.{arith}
use Rattle.std.proofs.lemmas.Grind.{common_steps}
use Rattle.std.proofs.lemmas.Result.{on_err_weaker}
use Rattle.outside.proofs.Appending.{all-appended, appended-since-nothing}
use Rattle.command_runs.proofs.output.save.Goals as goal

pub returns-clause-failed : goal.returns-clause-failed
returns-clause-failed g c = grind (arith, on_err_weaker, common_steps, all-appended, appended-since-nothing, g, c)
