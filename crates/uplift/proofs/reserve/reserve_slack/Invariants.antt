-- The sum over the periods so far, and its size.
use Rattle.std.proofs.Common.{◌≡◌, ◌*◌, ◌≤◌, unsigned_abs}
use Rattle.uc_model.specs.Prelude.{sum_below}
use Rattle.uplift.specs.Sizes.{MAX_SLACK}
use Rattle.uplift.specs.Uplift.{reserve_slack_at}
use Rattle.uplift.proofs.reserve.reserve_slack.Given as goal

abbrev pub invariant-loop-t : goal.invariant-loop-t
invariant-loop-t l = record {
  value : l.total ≡ sum_below l.t (reserve_slack_at l.instance l.printed l.table);
  size : unsigned_abs l.total ≤ l.t * MAX_SLACK;
}
