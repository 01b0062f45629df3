-- The periods before have their prices.
use Rattle.dispatch_prices.specs.PricedLimits.{ArePrices, demand_price}
use Rattle.dispatch_prices.proofs.table.demand_prices.Given as goal

abbrev pub invariant-loop-t : goal.invariant-loop-t
invariant-loop-t l = ArePrices (demand_price l.priced) l.t l.prices.items
