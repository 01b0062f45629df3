-- Whole watts are over the denominator 1.
use Rattle.std.proofs.Common.{arith}
use Rattle.schedule_check.proofs.pricing.row_cost.Goals as goal

pub row_cost_over-requires-clause-prices : goal.row_cost_over-requires-clause-prices
row_cost_over-requires-clause-prices c = grind (arith, c)
