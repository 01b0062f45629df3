-- The sum over the units so far, and its size.
use Rattle.std.proofs.Common.{◌≡◌, ◌*◌, ◌≤◌, ◌*ℤ◌, unsigned_abs}
use Rattle.uc_model.specs.Prelude.{thermal_unit, bit, sum_below}
use Rattle.uc_model.specs.declared.limits.TheConstants.{MAX_POWER}
use Rattle.dispatch_rules.specs.Prelude.{commitment_at}
use Rattle.dispatch_table.proofs.outputs.thermal_output.Given as goal

abbrev pub invariant-loop-g : goal.invariant-loop-g
invariant-loop-g l = record {
  value : l.total ≡ sum_below l.g (λ g. (thermal_unit l.given.instance.now g).pmin *ℤ bit (commitment_at l.given.patterns.now g l.t));
  size : unsigned_abs l.total ≤ l.g * MAX_POWER;
}
