-- The ranges of the units so far.
use Rattle.std.proofs.Common.{ℕ, ℤ, ◌<◌, List}
use Rattle.dispatch_repair.specs.Prelude.{Pattern, period_after, IsRangeOf, range_at}
use Rattle.dispatch_repair.proofs.ranges.set_renewable.Given as goal

abbrev pub invariant-loop-w : goal.invariant-loop-w
invariant-loop-w l = (patterns : List Pattern) (before : ℕ → ℤ) (w : ℕ) → w < l.w
    → IsRangeOf (period_after l.instance patterns l.t before) w (range_at l.ranges w)
