-- The amounts of a period more.
use Rattle.std.proofs.Common.{[]}
use Rattle.dispatch_rules.specs.Prelude.{amounts_in}
use Rattle.dispatch_table.specs.Tasks.{task_of}
use Rattle.dispatch_table.proofs.Pushed.{push_listed}
use Rattle.dispatch_table.proofs.amounts.amounts.Goals as goal

pub loop-t-preserved : goal.loop-t-preserved
loop-t-preserved c =
    push_listed [] c.loop-t.all.items c.push_period.new.all.items c.loop-t.t (amounts_in (task_of c.args.given.now)) c.loop-t.invariant c.in_ok-push_period.ensures
