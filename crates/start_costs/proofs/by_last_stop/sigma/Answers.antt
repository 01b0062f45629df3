-- The category s joins the least one where the last stop allows it.
use Rattle.std.proofs.Common.{arith, add-one}
use Rattle.std.proofs.lemmas.Int.{to_z-of_z}
use Rattle.std.proofs.lemmas.Bool.{cond-true, cond-false}
use Rattle.start_costs.proofs.by_last_stop.sigma.Goals as goal
use Rattle.start_costs.proofs.by_last_stop.sigma.Goals.{then-may_cost_as, else-may_cost_as}

pub loop-s-preserved : goal.loop-s-preserved
loop-s-preserved c = elim c.if-may_cost_as.branch [
  | then-may_cost_as w ↦ rw (add-one c.loop-s.s) (grind (arith, to_z-of_z, cond-true))
  | else-may_cost_as w ↦ rw (add-one c.loop-s.s) (grind (arith, cond-false))
]
