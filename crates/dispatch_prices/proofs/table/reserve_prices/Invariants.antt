-- The periods before have their prices.
use Rattle.dispatch_prices.specs.PricedLimits.{ArePrices, reserve_price}
use Rattle.dispatch_prices.proofs.table.reserve_prices.Given as goal

abbrev pub invariant-loop-t : goal.invariant-loop-t
invariant-loop-t l = ArePrices (reserve_price l.priced) l.t l.prices.items
