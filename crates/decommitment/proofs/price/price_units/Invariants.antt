-- What the units so far cost is written, and their sum.
use Rattle.std.proofs.Common.{◌≡◌, ◌*◌, ◌^◌, ◌≤◌, length, unsigned_abs}
use Rattle.uc_model.specs.Prelude.{sum_below}
use Rattle.decommitment.specs.inside.Runs.{AreUnitCosts, cost_at}
use Rattle.decommitment.proofs.price.price_units.Given as goal

abbrev pub invariant-loop-g : goal.invariant-loop-g
invariant-loop-g l = record {
  count : length l.costs ≡ length l.initial.costs;
  each : AreUnitCosts l.changed.instance.now l.changed.patterns.now l.changed.fills.now l.g l.costs;
  value : l.total ≡ sum_below l.g (cost_at l.costs);
  size : unsigned_abs l.total ≤ l.g * (168 * 2 ^ 64);
}
