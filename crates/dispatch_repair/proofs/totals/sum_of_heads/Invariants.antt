-- The sum over the heads so far, and its size.
use Rattle.std.proofs.Common.{◌≡◌, ◌*◌, ◌≤◌, unsigned_abs}
use Rattle.uc_model.specs.Prelude.{sum_below}
use Rattle.dispatch_repair.specs.Prelude.{MAX_POWER}
use Rattle.dispatch_repair.specs.Amounts.{amount_at}
use Rattle.dispatch_repair.proofs.totals.sum_of_heads.Given as goal

abbrev pub invariant-loop-g : goal.invariant-loop-g
invariant-loop-g l = record {
  value : l.total ≡ sum_below l.g (amount_at l.heads);
  size : unsigned_abs l.total ≤ l.g * (3 * MAX_POWER);
}
