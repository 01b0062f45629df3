-- A product of a cost is one of the task's.
use Rattle.std.proofs.Common.{inr}
use Rattle.dispatch_table.specs.Tasks.{task_with}
use Rattle.dispatch_table.proofs.MadeTasks.{is_task_of}
use Rattle.dispatch_table.proofs.making.scaled.Goals as goal

pub returns-in-Err : goal.returns-in-Err
returns-in-Err c = (
  task_with c.args.given.now c.args.scale.now,
  (
    is_task_of c.args.given.now c.requires.given c.args.scale.now c.requires.scale.value,
    inr c.in-Err.ensures.wide.0,
    c.in-Err.ensures.wide.1,
  ),
)
