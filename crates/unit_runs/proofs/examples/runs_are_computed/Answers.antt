-- Each example is computed.
use Rattle.std.proofs.Common.{refl}
use Rattle.dual_model.specs.ExactValue.{floored_cost}
use Rattle.unit_runs.proofs.examples.runs_are_computed.Goals as goal

pub returns : goal.returns
unfolding floored_cost
returns c = record { kept = refl; stuck = refl; stopped = refl; two = refl; output = refl; reserve = refl; rising = refl; before_stop = refl }
