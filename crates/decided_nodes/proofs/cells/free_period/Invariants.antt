use Rattle.decided_nodes.specs.Decided.{DecidesBelow}
use Rattle.decided_nodes.proofs.cells.free_period.Given as goal

-- the cells so far are decided
abbrev pub invariant-loop-t : goal.invariant-loop-t
invariant-loop-t l = DecidesBelow l.node l.g l.t
