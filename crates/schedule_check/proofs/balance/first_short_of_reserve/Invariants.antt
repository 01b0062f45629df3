-- The rule holds in each of the periods so far.
use Rattle.std.proofs.Common.{ℕ, ◌<◌, IsTrue}
use Rattle.schedule_check.specs.WholeWatts.{over, reserve_holds}
use Rattle.schedule_check.proofs.balance.first_short_of_reserve.Given as goal

abbrev pub invariant-loop-t : goal.invariant-loop-t
invariant-loop-t l = (k : ℕ) → k < l.t → IsTrue (reserve_holds (over l.printed.denominator) l.instance l.printed k)
