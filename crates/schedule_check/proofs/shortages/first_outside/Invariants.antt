-- The test holds in each of the periods so far.
use Rattle.std.proofs.Common.{ℕ, ◌<◌, IsTrue}
use Rattle.schedule_check.specs.WholeWatts.{is_shortage_within, over}
use Rattle.schedule_check.proofs.shortages.first_outside.Given as goal

abbrev pub invariant-loop-t : goal.invariant-loop-t
invariant-loop-t l = (k : ℕ) → k < l.t → IsTrue (is_shortage_within (over l.denominator) l.price l.needs l.missing k)
