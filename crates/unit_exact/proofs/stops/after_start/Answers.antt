-- The run begins with the start.
use Rattle.std.proofs.Common.{arith, add-one, suc, ◌<◌, true, sym, subst}
use Rattle.unit_runs.specs.RunsToGo.{run_from}
use Rattle.unit_exact.specs.inside.Running.{IsRunning}
use Rattle.unit_exact.specs.inside.Switches.{IsLeastSwitch, IsTableFrom}
use Rattle.unit_exact.proofs.stops.after_start.Goals as goal

pub later_stop-requires-clause-past : goal.later_stop-requires-clause-past
later_stop-requires-clause-past c =
    subst (λ k. run_from k < c.args.problem.now.periods) (sym (add-one c.args.from)) c.requires.period

pub later_stop-requires-clause-running : goal.later_stop-requires-clause-running
later_stop-requires-clause-running c =
    let p = c.args.problem.now in
    subst (λ k. IsRunning p.periods p.table.now p.unit.now p.hull.now (run_from k) 0 c.begin.new.self) (sym (add-one c.args.from)) c.begin.ensures

pub later_stop-requires-clause-later : goal.later_stop-requires-clause-later
later_stop-requires-clause-later c =
    let p = c.args.problem.now in
    subst (λ k. IsTableFrom p.periods p.table.now p.unit.now p.fix.now (suc (run_from k)) c.args.entries.now) (sym (add-one c.args.from)) c.requires.later

pub later_stop-requires-clause-known : goal.later_stop-requires-clause-known
later_stop-requires-clause-known c = grind (arith, c)

pub returns-clause-least : goal.returns-clause-least
returns-clause-least c =
    let p = c.args.problem.now in
    subst (λ k. IsLeastSwitch p.periods p.table.now p.unit.now p.fix.now k true k c.later_stop.result) (add-one c.args.from) c.later_stop.ensures.least
