-- What was written into the slice stands in the room.
use Rattle.std.proofs.Common.{arith}
use Rattle.std.proofs.lemmas.List.{with_items_is}
use Rattle.dispatch_repair.proofs.ranges.set_ranges.Goals as goal

pub returns-clause-ranges : goal.returns-clause-ranges
returns-clause-ranges c = grind (arith, with_items_is, c)
