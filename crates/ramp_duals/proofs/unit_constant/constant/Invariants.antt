-- The sum over the periods before t, its size, and the multipliers of period t.
use Rattle.std.proofs.Common.{◌≡◌, ◌*◌, ◌^◌, ◌≤◌, ◌-ℤ◌, ◌*ℤ◌, neg_ℤ, unsigned_abs}
use Rattle.uc_model.specs.Prelude.{sum_below}
use Rattle.dual_model.specs.Prelude.{up_at, down_at}
use Rattle.ramp_duals.specs.RampRows.{AreOf}
use Rattle.ramp_duals.proofs.unit_constant.constant.Given as goal

abbrev pub invariant-loop-t : goal.invariant-loop-t
invariant-loop-t l =
    AreOf l.ramps l.g l.t l.now
    × (l.total ≡ sum_below l.t (λ t. neg_ℤ (up_at l.table l.g t *ℤ l.unit.ru) -ℤ down_at l.table l.g t *ℤ l.unit.rd))
    × (unsigned_abs l.total ≤ l.t * 2 ^ 108)
