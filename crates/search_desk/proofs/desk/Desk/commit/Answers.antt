-- The book takes the commit, or is as before, by the cost that was seen.
use Rattle.std.proofs.Common.{arith}
use Rattle.std.proofs.lemmas.Int.{to_z-of_z}
use Rattle.search_desk.proofs.Dispatches.{first_lower}
use Rattle.search_desk.proofs.desk.Desk.commit.Goals as goal

pub enter-entered-requires-clause-action : goal.enter-entered-requires-clause-action
enter-entered-requires-clause-action g c = grind (arith, to_z-of_z, g, c)

pub enter-entered-requires-clause-dispatch : goal.enter-entered-requires-clause-dispatch
enter-entered-requires-clause-dispatch g c = grind (arith, first_lower, g, c)

pub returns : goal.returns
returns g c = grind (arith, to_z-of_z, g, c)
