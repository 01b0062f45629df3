-- The ranges of the units so far aren't empty.
use Rattle.std.proofs.Common.{◌≡◌, length}
use Rattle.uc_model.specs.Prelude.{renewable_count}
use Rattle.dispatch_repair.specs.Prelude.{Period, HaveRanges, AreRangesOf, source_count}
use Rattle.dispatch_repair.proofs.obstacle.empty_range.Given as goal

abbrev pub invariant-loop-unit : goal.invariant-loop-unit
invariant-loop-unit l = (period : Period) → l.renewables ≡ renewable_count period.instance → length l.ranges ≡ source_count period.instance
    → AreRangesOf period l.ranges → HaveRanges period l.unit
