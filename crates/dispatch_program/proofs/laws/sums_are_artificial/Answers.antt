-- The lines of the rules that the sum's line takes off add up.
use Rattle.dispatch_program.proofs.Lines.{sum_is_artificial}
use Rattle.dispatch_program.proofs.LastTables.{sums_are_low, no_sum_no_artificial}
use Rattle.dispatch_program.proofs.laws.sums_are_artificial.Goals as goal

pub returns-clause-values : goal.returns-clause-values
returns-clause-values c = sum_is_artificial

pub returns-clause-low : goal.returns-clause-low
returns-clause-low c = sums_are_low

pub returns-clause-none : goal.returns-clause-none
returns-clause-none c = no_sum_no_artificial
