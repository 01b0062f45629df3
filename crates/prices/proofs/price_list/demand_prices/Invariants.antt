-- The periods before have their prices.
use Rattle.std.proofs.Common.{◌≡◌, length, All}
use Rattle.dual_model.specs.Prelude.{IsPrice}
use Rattle.prices.proofs.price_list.demand_prices.Given as goal

abbrev pub invariant-loop-t : goal.invariant-loop-t
invariant-loop-t l = record {
  count : length l.demand.items ≡ l.t;
  each : All IsPrice l.demand.items;
}
