-- What the making of a commitment's table answers: its start, or a product that is too large.
-- Source: the simplex method (G. B. Dantzig, "Linear Programming and Extensions", 1963) on the exact dispatch of a commitment; this project's own form.
use Rattle.std.specs.Prelude.{◌≡◌, ℕ, ◌^◌, ◌<◌, List, length, map, ℤ, unsigned_abs}
use Rattle.uc_model.specs.declared.instance.Instance.{Instance}
use Rattle.uc_model.specs.declared.pattern.Pattern.{Pattern}
use Rattle.pivot_run.specs.Prelude.{IsNarrow, IsWide, entry}
use Rattle.dispatch_program.specs.Prelude.{free_columns, start_table}
use Rattle.dispatch_rules.specs.Prelude.{CostForms, IsTaskOf, MakingForms, ScaleForms, limit_of, scale_to, Task, amounts, amount_at, limits, program, right_of, IsTask}
use Rattle.dispatch_table.specs.Tasks.{Given, scaled_cost, task_of}
pub use Rattle.dispatch_table.specs.declared.made.Made.{Made}
pub use Rattle.dispatch_table.specs.declared.made.Start.{Start}
use Rattle.dispatch_table.specs.declared.made.Made.TheVariants.{Start as StartOf, Wide as WideOf}

-- the table of the task's program at its start, with the amounts and limits of its columns and rows; all products in making it are small
pub record IsStartOf (task : Task) (s : Start) : Type 0 where
  pub table : s.table ≡ start_table (program task)
  pub rights : s.rights.items ≡ map (right_of task) (limits task)
  pub amounts : s.amounts.items ≡ amounts task
  pub limits : map limit_of s.limits.items ≡ limits task
  pub scale : s.scale ≡ task.scale
  pub free : s.free ≡ free_columns (program task)
  pub narrow : IsNarrow (MakingForms task)

-- it is the start of the commitment's task, or a product that making it forms, 2^126 or more in size
abbrev pub IsMade : Instance → List Pattern → Made → Type 0
IsMade instance patterns (StartOf s) = (task : Task) × (IsTaskOf instance patterns task × IsTask task × IsStartOf task s)
IsMade instance patterns (WideOf w) = (task : Task) × (IsTaskOf instance patterns task × MakingForms task w.size w.other × IsWide w.size w.other)

-- ---- on the way
-- the scale of the given task, which small products made
pub record IsScale (given : Given) (scale : ℤ) : Type 0 where
  pub value : scale ≡ scale_to (task_of given) (length (amounts (task_of given)))
  pub narrow : IsNarrow (ScaleForms (task_of given))

-- the costs times the scale, which small products made
pub record AreCosts (given : Given) (scale : ℤ) (costs : List ℤ) : Type 0 where
  pub value : (c : ℕ) → c < length (amounts (task_of given)) → entry costs c ≡ scaled_cost (task_of given) scale (amount_at (task_of given) c)
  pub small : (c : ℕ) → c < length (amounts (task_of given)) → unsigned_abs (entry costs c) < 2 ^ 126
  pub count : length costs ≡ length (amounts (task_of given))
  pub narrow : IsNarrow (CostForms (task_of given))
