-- The run begins with the hour that is added.
use Rattle.std.proofs.Common.{lit<, suc, ◌*◌, false, ◌==◌, sym, subst, ◌∙◌, arith, ◌≤ℤ◌}
use Rattle.uc_model.proofs.Common.{narrow}
use Rattle.uc_model.specs.Prelude.{cell_cap}
use Rattle.hull_function.specs.Hours.{with_output}
use Rattle.state_walk.specs.inside.CostToEnd.{cost_to_end, hours_after}
use Rattle.state_walk.specs.inside.Problems.{MAX_POWER}
use Rattle.state_walk.proofs.FirstHours.{first-cap}
use Rattle.state_walk.proofs.Rests.{hours-bounded}
use Rattle.state_walk.proofs.endings.Endings.begin_before.Goals as goal

pub begun-cost-requires-clause-size : goal.begun-cost-requires-clause-size
begun-cost-requires-clause-size c = λ live.
    let p = c.args.problem.now in
    let rest = c.add_hour.new.self in
    hours-bounded p.periods p.table.now p.unit.now p.hull.now c.requires.lawful c.args.n c.args.t c.requires.within rest.alive rest.function live c.add_hour.ensures.costs

pub begun-cost-requires-clause-room : goal.begun-cost-requires-clause-room
begun-cost-requires-clause-room c = grind (arith, c)

pub returns-clause-cost : goal.returns-clause-cost
returns-clause-cost c =
    let p = c.args.problem.now in
    let unit = p.unit.now in
    let table = p.table.now in
    let n = c.args.n in
    let t = c.args.t in
    let behind = cost_to_end p.periods table unit n (suc t) false in
    let cap = c.at-hour.ensures.cap in
    let own = narrow c.entry_output.result (2 * MAX_POWER) c.entry_output.ensures.size (lit< tt) ∙ c.entry_output.ensures.value in
    let order = subst (λ z. z ≤ℤ cell_cap p.periods unit t false (n == 0)) (sym cap) (first-cap p.periods unit t (n == 0)) in
    c.begun-cost.ensures.cost table t (cell_cap p.periods unit t false (n == 0)) behind c.at-hour.ensures.at order c.add_hour.ensures.costs
    ∙ (λ i. hours_after table unit t (cap i) (with_output table unit t (cap i) behind) (own i))
