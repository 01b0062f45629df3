-- A push into one list.
use Rattle.std.proofs.Common.{arith}
use Rattle.decommitment.proofs.Places.{pushed_place}
use Rattle.decommitment.proofs.merit.push_place.Goals as goal

pub returns : goal.returns
returns c = grind (arith, pushed_place, c)
