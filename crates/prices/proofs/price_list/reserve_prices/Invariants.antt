-- The periods before have their prices.
use Rattle.std.proofs.Common.{◌≡◌, length, All}
use Rattle.prices.specs.inside.Moves.{IsMultiplier}
use Rattle.prices.proofs.price_list.reserve_prices.Given as goal

abbrev pub invariant-loop-t : goal.invariant-loop-t
invariant-loop-t l = record {
  count : length l.reserve.items ≡ l.t;
  each : All IsMultiplier l.reserve.items;
}
