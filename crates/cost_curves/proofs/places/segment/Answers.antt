-- The corners at the places are the ends of the segment.
use Rattle.std.proofs.Common.{arith}
use Rattle.std.proofs.lemmas.Int.{to_z-of_z}
use Rattle.cost_curves.proofs.HullValues.{segment_is}
use Rattle.cost_curves.proofs.places.segment.Goals as goal

pub returns : goal.returns
returns c = grind (arith, segment_is, to_z-of_z, c)
