-- The place was read before it was written.
use Rattle.std.proofs.Common.{arith, append_assoc}
use Rattle.std.proofs.lemmas.Option.{get_or_from_slice_get}
use Rattle.branch_tree.proofs.places.split.Goals as goal

pub returns-clause-places : goal.returns-clause-places
returns-clause-places c = grind (arith, get_or_from_slice_get, append_assoc, c)
