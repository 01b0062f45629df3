-- The least cost so far, over the categories before s + 1 and the last one.
use Rattle.std.proofs.Common.{◌≡◌, suc}
use Rattle.uc_model.specs.Prelude.{least_below, category_count, category_cost, may_cost_as}
use Rattle.start_costs.proofs.by_last_stop.sigma.Given as goal

abbrev pub invariant-loop-s : goal.invariant-loop-s
invariant-loop-s l =
    l.least ≡ least_below l.s (may_cost_as l.unit l.last_stop l.t) (λ s. category_cost l.unit (suc s)) (category_cost l.unit (category_count l.unit))
