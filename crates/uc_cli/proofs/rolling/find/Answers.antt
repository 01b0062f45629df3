-- What comes of the windows of the instance that was read.
use Rattle.std.proofs.Common.{arith}
use Rattle.uc_cli.proofs.SearchResults.{rolled_true}
use Rattle.uc_cli.proofs.rolling.find.Goals as goal

pub roll-requires-clause-options : goal.roll-requires-clause-options
roll-requires-clause-options g c = grind (arith, g, c)

pub returns-in_err-rolled-clause-cause : goal.returns-in_err-rolled-clause-cause
returns-in_err-rolled-clause-cause g c = grind (arith, g, c)

pub returns-clause-answer : goal.returns-clause-answer
returns-clause-answer g c = grind (arith, rolled_true, g, c)
