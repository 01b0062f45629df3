-- By the greatest common divisor.
use Rattle.fractions.proofs.Divided.{joined_are_least}
use Rattle.fractions.proofs.laws.joined_are_least.Goals as goal

pub returns : goal.returns
returns c = joined_are_least
