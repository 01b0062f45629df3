-- The rows are the schedule, or what is in the way ends it.
use Rattle.std.proofs.Common.{arith}
use Rattle.dispatch_repair.specs.Prelude.{printed_of}
use Rattle.dispatch_repair.proofs.Periods.{stuck_of}
use Rattle.dispatch_repair.proofs.schedule.dispatched.Goals as goal

pub returns-in_ok-printed-in-None-clause-dispatch : goal.returns-in_ok-printed-in-None-clause-dispatch
returns-in_ok-printed-in-None-clause-dispatch c = grind (arith, c)

pub returns-in_ok-stuck_at-in-Some-clause-fault : goal.returns-in_ok-stuck_at-in-Some-clause-fault
returns-in_ok-stuck_at-in-Some-clause-fault c =
    stuck_of c.args.instance.now c.args.patterns.now (printed_of c.dispatch_rows.new.rows) c.in-Some.obstacle c.in_ok-stuck_at-in-Some.field-0
    c.requires.regular c.in-Some.ensures.rows.shape c.in-Some.ensures.dispatch c.in_ok-stuck_at-in-Some.ensures
