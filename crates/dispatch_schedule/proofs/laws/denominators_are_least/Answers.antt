-- Value by value.
use Rattle.dispatch_schedule.proofs.Wholes.{denominators_are_least}
use Rattle.dispatch_schedule.proofs.laws.denominators_are_least.Goals as goal

pub returns : goal.returns
returns c = denominators_are_least
