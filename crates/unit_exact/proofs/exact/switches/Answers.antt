-- The least ways from a start, and from a stop.
use Rattle.std.proofs.Common.{arith}
use Rattle.unit_exact.proofs.exact.switches.Goals as goal

pub next_start-stop-requires-clause-later : goal.next_start-stop-requires-clause-later
next_start-stop-requires-clause-later c = grind (arith, c)

pub returns-clause-switches : goal.returns-clause-switches
returns-clause-switches c = grind (arith, c)
