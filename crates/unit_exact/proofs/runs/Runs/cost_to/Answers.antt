-- The costs with a last hour in period t, of a copy.
use Rattle.std.proofs.Common.{suc, ◌+◌, ◌-◌, ◌*◌, ap, ◌∙◌, arith}
use Rattle.unit_runs.specs.CostThrough.{cost_through, hour_after}
use Rattle.unit_exact.specs.inside.Running.{least_ending}
use Rattle.unit_exact.specs.inside.Problems.{MAX_SWITCH}
use Rattle.hull_function.proofs.HullFunction.{hull-function}
use Rattle.hull_function.specs.Hours.{MAX_HOUR}
use Rattle.unit_exact.proofs.RunSteps.{IsCopyOf, bounded-more, copy-costs, copy-size, hours-size, run-ends, through-last}
use Rattle.unit_exact.proofs.runs.Runs.cost_to.Goals as goal
use Rattle.unit_exact.proofs.runs.Runs.cost_to.Goals.{After-copy_from}

pub add_hour-requires-clause-hull : goal.add_hour-requires-clause-hull
add_hour-requires-clause-hull c =
    let p = c.args.problem.now in
    hull-function p.unit.now p.table.now.k p.hull.now c.requires.lawful.unit_is c.requires.hull.function

copy_is : (c : After-copy_from) → IsCopyOf c.args.self.now.living.alive c.args.self.now.living.function c.copy_from.new.self.alive c.copy_from.new.self.function
copy_is c = record { room = c.args.self.now.ending.function.room; alive_is = c.copy_from.ensures.alive; function_is = c.copy_from.ensures.function }

pub add_hour-requires-clause-near : goal.add_hour-requires-clause-near
add_hour-requires-clause-near c = grind (arith, c)

pub add_hour-requires-clause-size : goal.add_hour-requires-clause-size
add_hour-requires-clause-size c =
    let living = c.args.self.now.living in
    let g = c.copy_from.new.self in
    let copy = copy_is (goal.at.add_hour-requires-clause-size c).After-copy_from in
    let n = c.args.t - c.args.from in
    let few = hours-size n c.args.problem.now.periods (omega arith) c.requires.lawful.periods_are.1 in
    λ live. bounded-more g.function (MAX_HOUR * n) MAX_SWITCH few
    (copy-size living.alive living.function g.alive g.function copy (MAX_HOUR * n) c.requires.running.size live)

pub add_hour-requires-clause-room : goal.add_hour-requires-clause-room
add_hour-requires-clause-room c = grind (arith, c)

pub least_at_end-requires-clause-room : goal.least_at_end-requires-clause-room
least_at_end-requires-clause-room c = grind (arith, c)

pub returns-clause-running : goal.returns-clause-running
returns-clause-running c = grind (arith, c)

pub returns-clause-cost : goal.returns-clause-cost
returns-clause-cost c =
    let p = c.args.problem.now in
    let living = c.args.self.now.living in
    let g = c.copy_from.new.self in
    let copy = copy_is (goal.at.returns-clause-cost c).After-copy_from in
    let n = c.args.t - c.args.from in
    let before = cost_through p.periods p.table.now p.unit.now c.args.from (suc n) n in
    let costs = c.add_hour.ensures.costs p.table.now c.args.t before c.requires.hull.function c.at-hour.ensures.at
    (copy-costs living.alive living.function g.alive g.function copy before c.requires.running.costs) in
    c.least_at_end.ensures.least (hour_after p.table.now p.unit.now c.args.t c.at-hour.result.cap before) costs
    ∙ ap (least_ending p.periods p.unit.now (suc c.args.t))
    (through-last p.periods p.table.now p.unit.now c.args.from c.args.t c.at-hour.result.cap c.requires.order c.at-hour.ensures.cap)
    ∙ run-ends p.periods p.table.now p.unit.now c.args.from c.args.t c.requires.order

pub returns-clause-size : goal.returns-clause-size
returns-clause-size c =
    let living = c.args.self.now.living in
    let g = c.copy_from.new.self in
    let copy = copy_is (goal.at.returns-clause-size c).After-copy_from in
    let n = c.args.t - c.args.from in
    let order = c.requires.order in
    let period = c.requires.period in
    let few = c.requires.lawful.periods_are.1 in
    c.least_at_end.ensures.size MAX_SWITCH
    (λ live. bounded-more c.add_hour.new.self.function (MAX_HOUR * n + MAX_HOUR) MAX_SWITCH (omega (arith, order, period, few))
    (c.add_hour.ensures.size (MAX_HOUR * n) (copy-size living.alive living.function g.alive g.function copy (MAX_HOUR * n) c.requires.running.size) live))
