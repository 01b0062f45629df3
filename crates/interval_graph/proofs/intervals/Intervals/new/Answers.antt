-- Each term is 0, and so is each sum.
use Rattle.std.proofs.Common.{arith}
use Rattle.interval_graph.proofs.RunningSums.{zero-sums}
use Rattle.interval_graph.proofs.TermRows.{zero-rows}
use Rattle.interval_graph.proofs.intervals.Intervals.new.Goals as goal

pub invariant_of-result : goal.invariant_of-result
invariant_of-result c = grind (arith, zero-rows, zero-sums, c)
