-- The counts before the periods so far.
use Rattle.std.proofs.Common.{◌≡◌, ℕ, suc, ◌<◌, length, get_or}
use Rattle.schedule_check.specs.inside.Changes.{change_at, count_below}
use Rattle.schedule_check.specs.WholeWatts.{commitment}
use Rattle.schedule_check.proofs.counts.Counts.of.Given as goal

abbrev pub invariant-loop-t : goal.invariant-loop-t
invariant-loop-t l = record {
  room : length l.before ≡ 169;
  each : (k : ℕ) → k < suc l.t → get_or l.before k 0 ≡ count_below k (change_at l.change l.unit (commitment l.row));
}
