-- Each list has no more entries than periods.
use Rattle.roll.proofs.Parts.{first_of_all}
use Rattle.roll.proofs.laws.all_periods_are_the_instance.Goals as goal

pub returns : goal.returns
returns c = first_of_all
