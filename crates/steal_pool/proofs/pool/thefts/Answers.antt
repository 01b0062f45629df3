use Rattle.std.proofs.Common.{arith}
use Rattle.steal_pool.proofs.Making.{take-drop, all_but}
use Rattle.steal_pool.proofs.pool.thefts.Goals as goal

-- the deques before the worker's own, and those behind it
pub returns : goal.returns
returns c = grind (arith, take-drop, all_but, c)
