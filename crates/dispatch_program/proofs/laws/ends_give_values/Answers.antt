-- Row by row of the basis.
use Rattle.dispatch_program.proofs.BasicValues.{shares_exist}
use Rattle.dispatch_program.proofs.LastTables.{ends_are_last, bases_give_values}
use Rattle.dispatch_program.proofs.laws.ends_give_values.Goals as goal

pub returns-clause-last : goal.returns-clause-last
returns-clause-last c = ends_are_last

pub returns-clause-shares : goal.returns-clause-shares
returns-clause-shares c = shares_exist

pub returns-clause-values : goal.returns-clause-values
returns-clause-values c = bases_give_values
