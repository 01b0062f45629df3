-- The window that was searched is the one behind what is kept.
use Rattle.std.proofs.Common.{◌+◌, arith, refl}
use Rattle.roll.proofs.SoFar.{stopped}
use Rattle.workers.specs.inside.Rolls.{MayFind}
use Rattle.workers.proofs.rolling.stopped.Goals as goal

pub overflow_add-result-2 : goal.overflow_add-result-2
overflow_add-result-2 c = omega (arith, c.requires.plan.lawful.periods.1, c.requires.place.reach)

pub returns : goal.returns
returns c =
    let plan = c.args.plan in
    let kept = c.args.kept in
    let place = c.args.place in
    let found = c.requires.found in
    stopped (MayFind plan) plan.instance.now plan.window plan.step kept.done kept.windows (kept.windows + 1) (kept.done + place.len) place kept.schedule
    found.ahead c.args.found c.requires.left c.requires.kept c.requires.place found.next found.lawful found.search c.requires.none (omega arith) refl
