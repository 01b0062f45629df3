-- The test holds in each of the periods so far.
use Rattle.std.proofs.Common.{ℕ, ◌<◌, length, IsTrue}
use Rattle.schedule_check.specs.WholeWatts.{over, unit_holds_by}
use Rattle.schedule_check.proofs.unit_rules.first_failure.Given as goal

abbrev pub invariant-loop-t : goal.invariant-loop-t
invariant-loop-t l = (k : ℕ) → k < l.t → IsTrue (unit_holds_by (over l.denominator) l.rule (length l.row) l.unit l.row k)
