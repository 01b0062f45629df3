-- The sums over the ranges so far, and their sizes.
use Rattle.std.proofs.Common.{◌≡◌, ◌*◌, ◌≤◌, unsigned_abs}
use Rattle.uc_model.specs.Prelude.{sum_below}
use Rattle.dispatch_repair.specs.Prelude.{MAX_POWER, range_at}
use Rattle.dispatch_repair.proofs.totals.sum_of_ranges.Given as goal

abbrev pub invariant-loop-n : goal.invariant-loop-n
invariant-loop-n l = record {
  low : l.total.low ≡ sum_below l.n (λ n. (range_at l.ranges n).low);
  high : l.total.high ≡ sum_below l.n (λ n. (range_at l.ranges n).high);
  low_size : unsigned_abs l.total.low ≤ l.n * (3 * MAX_POWER);
  high_size : unsigned_abs l.total.high ≤ l.n * (3 * MAX_POWER);
}
