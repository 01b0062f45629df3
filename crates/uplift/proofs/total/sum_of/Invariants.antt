-- The sum of the numbers so far, and its size.
use Rattle.std.proofs.Common.{◌≡◌, ◌*◌, ◌≤◌, unsigned_abs}
use Rattle.uc_model.specs.Prelude.{sum_below}
use Rattle.uplift.specs.Sizes.{MAX_UPLIFT}
use Rattle.uplift.specs.inside.Lists.{number_in}
use Rattle.uplift.proofs.total.sum_of.Given as goal

abbrev pub invariant-loop-i : goal.invariant-loop-i
invariant-loop-i l = record {
  value : l.total ≡ sum_below l.i (number_in l.numbers);
  size : unsigned_abs l.total ≤ l.i * MAX_UPLIFT;
}
