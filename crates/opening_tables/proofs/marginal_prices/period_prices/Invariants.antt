-- The periods before the place have their prices.
use Rattle.std.proofs.Common.{◌≡◌, length}
use Rattle.opening_tables.specs.inside.Slopes.{ArePriced}
use Rattle.opening_tables.proofs.marginal_prices.period_prices.Given as goal

abbrev pub invariant-loop-t : goal.invariant-loop-t
invariant-loop-t l = record {
  count : length l.prices.items ≡ l.instance.periods;
  prices : ArePriced l.instance l.printed l.t l.prices.items;
}
