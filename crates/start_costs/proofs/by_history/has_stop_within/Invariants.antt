-- None of the periods tried so far has a stop.
use Rattle.std.proofs.Common.{◌≡◌, ℕ, ◌-◌, ◌<◌, ◌≤◌, false}
use Rattle.uc_model.specs.Prelude.{stops, commitment_of}
use Rattle.start_costs.proofs.by_history.has_stop_within.Given as goal

abbrev pub invariant-loop-i : goal.invariant-loop-i
invariant-loop-i l = (k : ℕ) → l.from ≤ k → k < l.i → stops l.unit (commitment_of l.pattern) (l.t - k) ≡ false
