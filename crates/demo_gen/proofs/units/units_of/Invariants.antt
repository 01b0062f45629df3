-- The units before the place, with their sums.
use Rattle.std.proofs.Common.{◌≡◌, ◌*◌}
use Rattle.demo_gen.specs.Demo.{first_units, minimum_sum, range_sum, state_after}
use Rattle.demo_gen.proofs.units.units_of.Given as goal

abbrev pub invariant-loop-g : goal.invariant-loop-g
invariant-loop-g l = record {
  state : l.generator.state ≡ state_after l.fn.seed (7 * l.g);
  units : l.units.items ≡ first_units l.fn.seed l.g;
  minimum : l.minimum ≡ minimum_sum l.fn.seed l.g;
  range : l.range ≡ range_sum l.fn.seed l.g;
}
