-- After the last period the runs that last are paid for.
use Rattle.std.proofs.Common.{◌≡◌, ◌-◌, arith}
use Rattle.state_walk.proofs.exact.least_cost.Goals as goal

pub loop-back-init : goal.loop-back-init
loop-back-init c =
    let p = c.args.problem.now in
    let whole : p.periods ≡ p.periods - 0 = omega arith in
    let count = c.fill.ensures.count in
    let runs = c.requires.runs in
    record {
      room = c.fill.ensures.room;
      table = grind (arith, p, c, whole, count, runs);
    }
