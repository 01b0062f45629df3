-- A product of the scale is one of the task's.
use Rattle.std.proofs.Common.{inl, length, refl, ℤ}
use Rattle.dispatch_rules.specs.Prelude.{scale_to, amounts}
use Rattle.dispatch_table.specs.Tasks.{Given, task_of, task_with}
use Rattle.dispatch_table.proofs.MadeTasks.{is_task_of}
use Rattle.dispatch_table.proofs.making.made.Goals as goal

abbrev scale_of : Given → ℤ
scale_of given = scale_to (task_of given) (length (amounts (task_of given)))

pub returns-in-Err : goal.returns-in-Err
returns-in-Err c = (
  task_with c.args.given.now (scale_of c.args.given.now),
  (
    is_task_of c.args.given.now c.requires (scale_of c.args.given.now) refl,
    inl c.in-Err.ensures.wide.0,
    c.in-Err.ensures.wide.1,
  ),
)
