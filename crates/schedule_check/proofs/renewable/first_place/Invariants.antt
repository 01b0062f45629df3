-- The rule holds for each of the units so far.
use Rattle.std.proofs.Common.{ℕ, ◌<◌, IsTrue}
use Rattle.schedule_check.specs.WholeWatts.{over, renewable_range_at}
use Rattle.schedule_check.proofs.renewable.first_place.Given as goal

abbrev pub invariant-loop-unit : goal.invariant-loop-unit
invariant-loop-unit l = (g t : ℕ) → g < l.unit → t < l.instance.periods → IsTrue (renewable_range_at (over l.printed.denominator) l.instance l.printed g t)
