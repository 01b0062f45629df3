-- The steps of an hour one behind the other where there are costs, and none where there are none.
use Rattle.std.proofs.Common.{◌+◌, true, subst, arith, ℤ, ◌+ℤ◌, ◌-ℤ◌, Option, Some}
use Rattle.dual_model.specs.Prelude.{total_of}
use Rattle.hull_function.specs.Hours.{IsCostsOf, MAX_HOUR, MAX_OUTPUT_COST, MAX_RESERVE, MAX_RUN}
use Rattle.hull_function.proofs.HourSums.{limit-bits, limit-is}
use Rattle.unit_runs.specs.CostThrough.{least_between, reserve_cost}
use Rattle.unit_exact.specs.inside.Problems.{MAX_SWITCH}
use Rattle.unit_exact.proofs.HourSteps.{none-after}
use Rattle.unit_exact.proofs.RunSteps.{bounded-more}
use Rattle.unit_exact.proofs.output_costs.OutputCosts.add_hour.Goals as goal

pub add_reserve-requires-clause-near : goal.add_reserve-requires-clause-near
add_reserve-requires-clause-near c = λ p place. let near = c.requires.near c.if-self.true p place in omega (arith, near)

pub add_reserve-requires-clause-size : goal.add_reserve-requires-clause-size
add_reserve-requires-clause-size c = bounded-more c.args.self.now.function MAX_SWITCH MAX_RUN (omega arith) (c.requires.size c.if-self.true)

pub spread-requires-clause-up : goal.spread-requires-clause-up
spread-requires-clause-up c = limit-bits c.args.problem.now.unit.now.ru c.requires.unit.ramp_up

pub spread-requires-clause-down : goal.spread-requires-clause-down
spread-requires-clause-down c = limit-bits c.args.problem.now.unit.now.rd c.requires.unit.ramp_down

pub spread-requires-clause-near : goal.spread-requires-clause-near
spread-requires-clause-near c = λ p place.
    let near = c.add_reserve.ensures.near 2 (c.requires.near c.if-self.true) p place in
    omega (arith, near)

pub add_outputs-self-requires-clause-size : goal.add_outputs-self-requires-clause-size
add_outputs-self-requires-clause-size c =
    bounded-more c.spread.new.function (MAX_SWITCH + MAX_RESERVE) MAX_RUN (omega arith)
    (c.spread.ensures.size (MAX_SWITCH + MAX_RESERVE) (c.add_reserve.ensures.size MAX_SWITCH (c.requires.size c.if-self.true)))

pub returns-then-self-clause-costs : goal.returns-then-self-clause-costs
returns-then-self-clause-costs c = λ table t before is_hull at is.
    let unit = c.args.problem.now.unit.now in
    let f = c.args.self.now.function in
    let g = c.spread.new.function in
    let cap = c.args.hour.now.cap in
    let reserved : ℤ → Option ℤ = λ q. total_of (before q) (Some (reserve_cost table unit t cap q)) in
    let up = limit-is unit.ru c.requires.unit.ramp_up in
    let down = limit-is unit.rd c.requires.unit.ramp_down in
    c.add_outputs-self.ensures.costs table unit t (λ p. least_between (p -ℤ unit.ru) (p +ℤ unit.rd) reserved) is_hull at
    (subst (λ (bounds : ℤ × ℤ). IsCostsOf true g (λ p. least_between (p -ℤ bounds.0) (p +ℤ bounds.1) reserved)) (λ i. (up i, down i))
    (c.spread.ensures.costs reserved (c.add_reserve.ensures.costs table t before at (subst (λ b. IsCostsOf b f before) c.if-self.true is))))

pub returns-then-self-clause-size : goal.returns-then-self-clause-size
returns-then-self-clause-size c = λ size small live.
    bounded-more c.add_outputs-self.new.function (size + MAX_RESERVE + MAX_OUTPUT_COST) (size + MAX_HOUR) (omega arith)
    (c.add_outputs-self.ensures.size (size + MAX_RESERVE) (c.spread.ensures.size (size + MAX_RESERVE) (c.add_reserve.ensures.size size (small c.if-self.true))) live)

pub returns-else-self-clause-costs : goal.returns-else-self-clause-costs
returns-else-self-clause-costs c = grind (arith, none-after, c)
