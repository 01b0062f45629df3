-- Back to the output before where there are costs, and none where there are none.
use Rattle.std.proofs.Common.{suc, ◌+◌, ◌*◌, ◌≤◌, true, false, ◌==◌, sym, subst, ◌∙◌, arith, ℤ, ◌+ℤ◌, ◌-ℤ◌}
use Rattle.uc_model.specs.Prelude.{cell_cap}
use Rattle.hull_function.specs.Hours.{IsCostsOf, MAX_RUN, with_output}
use Rattle.hull_function.proofs.HourSums.{limit-bits, limit-is}
use Rattle.unit_runs.specs.CostThrough.{least_between}
use Rattle.state_walk.specs.inside.CostToEnd.{cost_to_end, hours_after}
use Rattle.state_walk.proofs.Rests.{hours-bounded, hours-near, none-after-dead}
use Rattle.state_walk.proofs.rest.Rest.go_back.Goals as goal

pub spread-requires-clause-up : goal.spread-requires-clause-up
spread-requires-clause-up c = limit-bits c.args.problem.now.unit.now.rd c.requires.lawful.problem.unit_is.ramp_down

pub spread-requires-clause-down : goal.spread-requires-clause-down
spread-requires-clause-down c = limit-bits c.args.problem.now.unit.now.ru c.requires.lawful.problem.unit_is.ramp_up

pub spread-requires-clause-near : goal.spread-requires-clause-near
spread-requires-clause-near c =
    let p = c.args.problem.now in
    hours-near p.periods p.table.now p.unit.now p.hull.now c.requires.lawful c.args.n c.args.t c.requires.within c.args.self.now.alive c.args.self.now.function
    c.if-self.true c.requires.hours.costs

pub add_reserve-requires-clause-size : goal.add_reserve-requires-clause-size
add_reserve-requires-clause-size c =
    let p = c.args.problem.now in
    c.spread.ensures.size MAX_RUN
    (hours-bounded p.periods p.table.now p.unit.now p.hull.now c.requires.lawful c.args.n c.args.t c.requires.within c.args.self.now.alive c.args.self.now.function
    c.if-self.true c.requires.hours.costs)

pub returns-then-self : goal.returns-then-self
returns-then-self c =
    let p = c.args.problem.now in
    let unit = p.unit.now in
    let n = c.args.n in
    let t = c.args.t in
    let f = c.args.self.now.function in
    let ramp = c.spread.new.function in
    let g = c.add_reserve.new.function in
    let cap = cell_cap p.periods unit t false (n == 0) in
    let hours = with_output p.table.now unit t cap (cost_to_end p.periods p.table.now unit n (suc t) false) in
    let down = limit-is unit.rd c.requires.lawful.problem.unit_is.ramp_down in
    let up = limit-is unit.ru c.requires.lawful.problem.unit_is.ramp_up in
    let spread = subst (λ (bounds : ℤ × ℤ). IsCostsOf true ramp (λ p. least_between (p -ℤ bounds.0) (p +ℤ bounds.1) hours)) (λ i. (down i, up i))
    (c.spread.ensures.costs hours (subst (λ b. IsCostsOf b f hours) c.if-self.true c.requires.hours.costs)) in
    let old = c.requires.hours.pieces in
    let first = c.spread.ensures.pieces in
    let second = c.add_reserve.ensures.pieces in
    record {
      costs =
          subst (λ b. IsCostsOf b g (hours_after p.table.now unit t cap hours)) (sym c.if-self.true)
          (subst (λ z. IsCostsOf true g (hours_after p.table.now unit t z hours)) c.at-hour.ensures.cap
          (c.add_reserve.ensures.costs p.table.now t (λ q. least_between (q -ℤ unit.rd) (q +ℤ unit.ru) hours) c.at-hour.ensures.at spread));
      pieces = omega (arith, old, first, second);
      room = subst (λ room. ((p.periods + 2) * (p.hull.now.room + 2)) ≤ room) (sym (c.add_reserve.ensures.room ∙ c.spread.ensures.room)) c.requires.hours.room;
    }

pub returns-else-self : goal.returns-else-self
returns-else-self c =
    let p = c.args.problem.now in
    let n = c.args.n in
    let t = c.args.t in
    let f = c.args.self.now.function in
    let cap = cell_cap p.periods p.unit.now t false (n == 0) in
    let hours = with_output p.table.now p.unit.now t cap (cost_to_end p.periods p.table.now p.unit.now n (suc t) false) in
    let old = c.requires.hours.pieces in
    record {
      costs = subst (λ b. IsCostsOf b f (hours_after p.table.now p.unit.now t cap hours)) (sym c.if-self.false)
          (none-after-dead p.table.now p.unit.now t cap f hours (subst (λ b. IsCostsOf b f hours) c.if-self.false c.requires.hours.costs));
      pieces = omega (arith, old);
      room = c.requires.hours.room;
    }
