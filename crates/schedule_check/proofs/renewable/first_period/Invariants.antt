-- The test holds in each of the periods so far.
use Rattle.std.proofs.Common.{ℕ, ◌<◌, IsTrue}
use Rattle.schedule_check.specs.WholeWatts.{is_output_within, over}
use Rattle.schedule_check.proofs.renewable.first_period.Given as goal

abbrev pub invariant-loop-t : goal.invariant-loop-t
invariant-loop-t l = (k : ℕ) → k < l.t → IsTrue (is_output_within (over l.denominator) l.unit l.outputs k)
