-- The sum so far, and its size.
use Rattle.std.proofs.Common.{◌≡◌, ◌*◌, ◌≤◌, pos, slice_index_or, unsigned_abs}
use Rattle.std.specs.Int.{int_max}
use Rattle.uc_model.specs.Prelude.{sum_below}
use Rattle.uc_model.specs.declared.limits.TheConstants.{MAX_POWER}
use Rattle.instance.proofs.shortages.above_zero.Given as goal

abbrev pub invariant-loop-t : goal.invariant-loop-t
invariant-loop-t l = record {
  value : l.total ≡ sum_below l.t (λ t. int_max (slice_index_or l.powers t (pos 0)) (pos 0));
  size : unsigned_abs l.total ≤ l.t * MAX_POWER;
}
