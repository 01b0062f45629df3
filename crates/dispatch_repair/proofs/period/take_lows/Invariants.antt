-- The sources so far give their least.
use Rattle.std.proofs.Common.{◌≡◌, ℕ, ◌<◌}
use Rattle.dispatch_repair.specs.Prelude.{range_at}
use Rattle.dispatch_repair.specs.Amounts.{amount_at}
use Rattle.dispatch_repair.proofs.period.take_lows.Given as goal

abbrev pub invariant-loop-source : goal.invariant-loop-source
invariant-loop-source l = (n : ℕ) → n < l.source → amount_at l.amounts n ≡ (range_at l.ranges n).low
