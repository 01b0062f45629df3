-- The curve is the unit's.
use Rattle.std.proofs.Common.{arith}
use Rattle.std.proofs.lemmas.List.{get_or_read}
use Rattle.leaf_values.proofs.exact.ExactRoom.unit_value.Goals as goal

pub least_exact-requires-clause-curve : goal.least_exact-requires-clause-curve
least_exact-requires-clause-curve c = grind (arith, get_or_read, c)
