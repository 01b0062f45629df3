-- The cheapest category above s is known.
use Rattle.uc_model.specs.Prelude.{commitment_of}
use Rattle.start_costs.specs.Cheapest.{IsCheapestAbove}
use Rattle.start_costs.proofs.by_history.least_allowed.Given as goal

abbrev pub invariant-loop-s : goal.invariant-loop-s
invariant-loop-s l = IsCheapestAbove l.unit (commitment_of l.pattern) l.t l.s l.least
