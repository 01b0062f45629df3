-- By the greatest common divisor.
use Rattle.fractions.proofs.Divided.{fractions_are_lowest}
use Rattle.fractions.proofs.laws.fractions_are_lowest.Goals as goal

pub returns : goal.returns
returns c = fractions_are_lowest
