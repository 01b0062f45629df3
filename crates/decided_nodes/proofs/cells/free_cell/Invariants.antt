use Rattle.std.proofs.Common.{ℕ, ◌<◌}
use Rattle.decided_nodes.specs.Decided.{DecidesBelow}
use Rattle.decided_nodes.proofs.cells.free_cell.Given as goal

-- the cells of the units so far are decided
abbrev pub invariant-loop-g : goal.invariant-loop-g
invariant-loop-g l = (g : ℕ) → g < l.g → DecidesBelow l.node g l.instance.periods
