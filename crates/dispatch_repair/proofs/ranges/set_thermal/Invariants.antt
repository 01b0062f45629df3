-- The ranges of the renewable units are as they were, and those of the thermal units so far their own, as their heads are.
use Rattle.std.proofs.Common.{◌≡◌, ℕ, ◌+◌, ◌<◌}
use Rattle.uc_model.specs.Prelude.{renewable_count}
use Rattle.dispatch_repair.specs.Prelude.{period_after, IsHeadOf, IsRangeOf, range_at, thermal_amount}
use Rattle.dispatch_repair.specs.Amounts.{amount_at}
use Rattle.dispatch_repair.proofs.ranges.set_thermal.Given as goal

abbrev pub invariant-loop-g : goal.invariant-loop-g
invariant-loop-g l = record {
  others : (w : ℕ) → w < renewable_count l.instance → range_at l.ranges w ≡ range_at l.initial.ranges w;
  own : (g : ℕ) → g < l.g
      → IsRangeOf (period_after l.instance l.patterns l.t (thermal_amount l.instance l.amounts)) (renewable_count l.instance + g)
      (range_at l.ranges (renewable_count l.instance + g));
  heads : (g : ℕ) → g < l.g
      → IsHeadOf (period_after l.instance l.patterns l.t (thermal_amount l.instance l.amounts)) g (amount_at l.heads g);
}
