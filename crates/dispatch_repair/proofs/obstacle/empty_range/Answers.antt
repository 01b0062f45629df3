-- The range behind the renewable units' is that of the thermal unit.
use Rattle.std.proofs.Common.{◌≡◌, ℕ, ◌+◌, ◌<◌, arith, sym, ◌∙◌, List, length, ◌≤ℤ◌, below_more}
use Rattle.uc_model.specs.Prelude.{renewable_count, thermal_count}
use Rattle.uc_model.proofs.Common.{linear, narrow, int_lt-true}
use Rattle.dispatch_repair.specs.Prelude.{Period, FromThermal, Range, AreRangesOf, range_at, source_count}
use Rattle.dispatch_repair.proofs.Numbers.{at_most}
use Rattle.dispatch_repair.proofs.Places.{HasEnds, thermal_ends}
use Rattle.dispatch_repair.proofs.obstacle.empty_range.Goals as goal

within : (renewables unit sources first second : ℕ) → renewables ≡ first → sources ≡ first + second → unit + renewables < sources → unit < second
within renewables unit sources first second e f h = omega arith

at_place : (period : Period) (ranges : List Range) (renewables unit : ℕ) → renewables ≡ renewable_count period.instance
    → length ranges ≡ source_count period.instance → unit + renewables < length ranges → AreRangesOf period ranges
    → (unit < thermal_count period.instance) × HasEnds period (FromThermal unit) (range_at ranges (renewables + unit))
at_place period ranges renewables unit e whole h are = grind (arith, linear, within, thermal_ends, e, whole, h, are)

pub returns-then-is_empty : goal.returns-then-is_empty
returns-then-is_empty c = grind (arith, linear, at_place, narrow, int_lt-true, within, c)

pub loop-unit-preserved : goal.loop-unit-preserved
loop-unit-preserved c = λ period renewables whole are.
    let its = (at_place period c.args.ranges.now c.args.renewables c.loop-unit.unit renewables whole (omega arith) are).1 in
    let range = range_at c.args.ranges.now (c.args.renewables + c.loop-unit.unit) in
    let some : range.low ≤ℤ range.high = at_most range.high range.low (sym c.is_empty.ensures ∙ c.if-is_empty.false) in
    below_more _ _ (c.loop-unit.invariant period renewables whole are) (omega (arith, linear, some, its.low, its.high))
