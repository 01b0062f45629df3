-- An hour more where there are costs, and none where there are none.
use Rattle.std.proofs.Common.{suc, ◌+◌, ◌*◌, ◌≤◌, false, ◌==◌, sym, subst, arith}
use Rattle.uc_model.specs.Prelude.{cell_cap}
use Rattle.hull_function.proofs.HullFunction.{hull-function}
use Rattle.hull_function.specs.Hours.{with_output, IsCostsOf}
use Rattle.hull_function.proofs.Represented.{none-with-output}
use Rattle.state_walk.specs.inside.CostToEnd.{cost_to_end}
use Rattle.state_walk.proofs.Rests.{rest-bounded}
use Rattle.state_walk.proofs.rest.Rest.add_hour.Goals as goal

pub add_outputs-self-requires-clause-hull : goal.add_outputs-self-requires-clause-hull
add_outputs-self-requires-clause-hull c =
    let p = c.args.problem.now in
    hull-function p.unit.now p.table.now.k p.hull.now c.requires.lawful.problem.unit_is c.requires.lawful.hull_is.function

pub add_outputs-self-requires-clause-size : goal.add_outputs-self-requires-clause-size
add_outputs-self-requires-clause-size c =
    let p = c.args.problem.now in
    rest-bounded p.periods p.table.now p.unit.now p.hull.now c.requires.lawful c.args.n c.args.t c.requires.within c.args.self.now.alive c.args.self.now.function
    c.if-self.true c.requires.rest.costs

pub returns-then-self : goal.returns-then-self
returns-then-self c =
    let p = c.args.problem.now in
    let n = c.args.n in
    let t = c.args.t in
    let f = c.args.self.now.function in
    let g = c.add_outputs-self.new.function in
    let behind = cost_to_end p.periods p.table.now p.unit.now n (suc t) false in
    let old = c.requires.rest.pieces in
    let new = c.add_outputs-self.ensures.pieces in
    let few = c.requires.lawful.hull_is.pieces in
    record {
      costs =
          subst (λ cap. IsCostsOf c.add_outputs-self.result g (with_output p.table.now p.unit.now t cap behind)) c.at-hour.ensures.cap
          (c.add_outputs-self.ensures.costs p.table.now p.unit.now t behind c.requires.lawful.hull_is.function c.at-hour.ensures.at
          (subst (λ b. IsCostsOf b f behind) c.if-self.true c.requires.rest.costs));
      pieces = omega (arith, old, new, few);
      room = subst (λ room. ((p.periods + 2) * (p.hull.now.room + 2)) ≤ room) (sym c.add_outputs-self.ensures.room) c.requires.rest.room;
    }

pub returns-else-self : goal.returns-else-self
returns-else-self c =
    let p = c.args.problem.now in
    let n = c.args.n in
    let t = c.args.t in
    let f = c.args.self.now.function in
    let behind = cost_to_end p.periods p.table.now p.unit.now n (suc t) false in
    let cap = cell_cap p.periods p.unit.now t false (n == 0) in
    let old = c.requires.rest.pieces in
    record {
      costs = subst (λ b. IsCostsOf b f (with_output p.table.now p.unit.now t cap behind)) (sym c.if-self.false)
          (none-with-output p.table.now p.unit.now t cap f f behind (subst (λ b. IsCostsOf b f behind) c.if-self.false c.requires.rest.costs));
      pieces = omega (arith, old);
      room = c.requires.rest.room;
    }
