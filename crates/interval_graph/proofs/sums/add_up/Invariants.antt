-- The sums of the periods before t are written, and the total is the sum before t.
use Rattle.interval_graph.proofs.RunningSums.{IsAddedTo}
use Rattle.interval_graph.proofs.sums.add_up.Given as goal

abbrev pub invariant-loop-t : goal.invariant-loop-t
invariant-loop-t l = IsAddedTo l.rows l.t l.total l.sums
