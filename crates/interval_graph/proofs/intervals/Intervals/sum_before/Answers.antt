-- The sum before the period, of at most as many terms as there are periods.
use Rattle.std.proofs.Common.{arith}
use Rattle.std.proofs.lemmas.List.{get_or_read}
use Rattle.uc_model.proofs.Common.{wide-size}
use Rattle.interval_graph.proofs.IntervalCosts.{full-size}
use Rattle.interval_graph.proofs.intervals.Intervals.sum_before.Goals as goal

pub returns-clause-size : goal.returns-clause-size
returns-clause-size c = grind (arith, get_or_read, wide-size, full-size, c)
