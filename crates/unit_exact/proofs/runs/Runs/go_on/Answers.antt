-- The costs with the hour in period t.
use Rattle.std.proofs.Common.{suc, ◌+◌, ◌-◌, ◌*◌, subst, arith}
use Rattle.hull_function.proofs.HullFunction.{hull-function}
use Rattle.hull_function.specs.Hours.{IsCostsOf, MAX_HOUR}
use Rattle.unit_exact.proofs.RunSteps.{bounded-more, pieces-more, through-more}
use Rattle.unit_exact.proofs.runs.Runs.go_on.Goals as goal

pub add_hour-requires-clause-hull : goal.add_hour-requires-clause-hull
add_hour-requires-clause-hull c =
    let p = c.args.problem.now in
    hull-function p.unit.now p.table.now.k p.hull.now c.requires.lawful.unit_is c.requires.hull.function

pub add_hour-requires-clause-size : goal.add_hour-requires-clause-size
add_hour-requires-clause-size c = grind (arith, c)

pub add_hour-requires-clause-room : goal.add_hour-requires-clause-room
add_hour-requires-clause-room c = grind (arith, c)

pub returns : goal.returns
returns c =
    let p = c.args.problem.now in
    let running = c.requires.running in
    let n = c.args.t - c.args.from in
    let new = c.add_hour.new.self in
    record {
      room = grind (arith, p, c, running);
      costs =
          subst (IsCostsOf new.alive new.function) (through-more p.periods p.table.now p.unit.now c.args.from c.args.t c.at-hour.result.cap c.requires.order c.at-hour.ensures.cap)
          (c.add_hour.ensures.costs p.table.now c.args.t _ c.requires.hull.function c.at-hour.ensures.at running.costs);
      size = λ live. bounded-more new.function (MAX_HOUR * n + MAX_HOUR) (MAX_HOUR * suc n) (omega arith)
          (c.add_hour.ensures.size (MAX_HOUR * n) running.size live);
      near = c.add_hour.ensures.near;
      pieces = pieces-more n p.hull.now.room _ _ _ running.pieces c.requires.hull.pieces c.add_hour.ensures.pieces;
    }
