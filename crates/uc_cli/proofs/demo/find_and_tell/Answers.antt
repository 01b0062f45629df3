-- Each end from the steps before it.
use Rattle.std.proofs.Common.{arith}
use Rattle.uc_cli.proofs.demo.find_and_tell.Goals as goal

pub returns-in_err-found-clause-failed : goal.returns-in_err-found-clause-failed
returns-in_err-found-clause-failed g c = grind (arith, g, c)

pub returns-in-Ok-clause-done : goal.returns-in-Ok-clause-done
returns-in-Ok-clause-done g c = grind (arith, g, c)

pub returns-in-Err-clause-failed : goal.returns-in-Err-clause-failed
returns-in-Err-clause-failed g c = record { answer = c.in_ok-found.ensures.answer; report = c.in-Err.ensures.failed }
