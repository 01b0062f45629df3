-- Else the column gives a ray.
use Rattle.dispatch_program.proofs.Entering.{sums_go_on, entering_gives_rays}
use Rattle.dispatch_program.proofs.laws.entering_columns_go_on.Goals as goal

pub returns-clause-sum : goal.returns-clause-sum
returns-clause-sum c = sums_go_on

pub returns-clause-rays : goal.returns-clause-rays
returns-clause-rays c = entering_gives_rays
