-- The sum over the units so far, and its size.
use Rattle.std.proofs.Common.{◌≡◌, ◌*◌, ◌≤◌, unsigned_abs}
use Rattle.uc_model.specs.Prelude.{sum_below}
use Rattle.schedule_check.specs.inside.Supplies.{given_at}
use Rattle.schedule_check.specs.declared.balance.TheConstants.{MOST_OUTPUT}
use Rattle.schedule_check.proofs.balance.supplied.Given as goal

abbrev pub invariant-loop-i : goal.invariant-loop-i
invariant-loop-i l = record {
  value : l.total ≡ sum_below l.i (λ i. given_at l.kind l.instance l.printed i l.t);
  size : unsigned_abs l.total ≤ l.i * MOST_OUTPUT;
}
