-- The sum over the units so far, and its size.
use Rattle.std.proofs.Common.{◌≡◌, ◌*◌, ◌≤◌, pos, unsigned_abs}
use Rattle.std.specs.Int.{int_max}
use Rattle.uc_model.specs.Prelude.{renewable_minimum, sum_below}
use Rattle.uc_model.specs.declared.limits.TheConstants.{MAX_POWER}
use Rattle.dispatch_table.proofs.outputs.renewable_output.Given as goal

abbrev pub invariant-loop-w : goal.invariant-loop-w
invariant-loop-w l = record {
  value : l.total ≡ sum_below l.w (λ w. int_max (renewable_minimum l.instance w l.t) (pos 0));
  size : unsigned_abs l.total ≤ l.w * MAX_POWER;
}
