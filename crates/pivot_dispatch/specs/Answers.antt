-- The answers of the exact dispatch, each with the run of pivots that it comes from: so that a limit is told exactly where the run meets one.
-- Source: the simplex method in two phases (G. B. Dantzig, "Linear Programming and Extensions", 1963); the limits in size are this project's.
use Rattle.std.specs.Prelude.{◌≡◌, ℕ, ◌+◌, ◌<◌, ◌⊎◌, true, List, ℤ, pos, ◌<ℤ◌, IsSome, unsigned_abs}
use Rattle.pivot_run.specs.Prelude.{IsNarrow, IsWide, row_at, EndsAfter, IsRun, StepForms, state_of}
use Rattle.pivot_run.specs.Stages.{plan_at}
use Rattle.pivot_run.specs.Tables as tables
use Rattle.dispatch_program.specs.Prelude.{IsCheapest, SumIsLeft, state_at, free_columns, start_table, multiplier}
use Rattle.dispatch_rules.specs.Prelude.{IsTaskOf, MakingForms, Task, limit_at, program, IsReadOff, cost_times, scale_of}
use Rattle.dispatch_prices.specs.ReadOff.{ReadingForms, is_priced}
use Rattle.dispatch_schedule.specs.ColumnValues.{DenominatorForms, schedule_denominator}
use Rattle.pivot_dispatch.specs.Commitments.{Instance, Pattern, IsBestOf, IsRayOf}
pub use Rattle.pivot_dispatch.specs.declared.pivot.DispatchAnswer.{DispatchAnswer}
pub use Rattle.pivot_dispatch.specs.declared.pivot.WideCause.{WideCause}
use Rattle.pivot_dispatch.specs.declared.pivot.DispatchAnswer.TheVariants.{Best, Ray, Wide}
use Rattle.pivot_dispatch.specs.declared.pivot.WideCause.TheVariants.{Product, Multiplier, Scale, Denominator, Pivots}

-- ---- the run
-- the run from the start of the commitment's table makes n pivots by small products
abbrev pub Runs : Task → ℕ → Type 0
Runs task n = IsRun (free_columns (program task)) (state_of (start_table (program task)) 0) n

-- and ends then, with the table t
abbrev pub Ends : Task → ℕ → tables.Table → Type 0
Ends task n t = EndsAfter (free_columns (program task)) (state_of (start_table (program task)) 0) n t

-- ---- the end
-- the last rows: that of the sum where a sum is left, else that of the cost
abbrev pub sum_row : Task → tables.Table → List ℤ
sum_row task t = row_at t.rows (program task).rules

abbrev pub cost_row : Task → tables.Table → List ℤ
cost_row task t = row_at t.rows ((program task).rules + 1)

-- making the scale K of a cheapest basis forms the product of these two numbers
abbrev pub TableScaleForms : Task → tables.Table → ℤ → ℤ → Type 0
TableScaleForms task t a b = (a ≡ cost_times task (cost_row task t)) × (b ≡ task.scale)

-- and so does making the ray, or the prices and the schedule
abbrev pub RayForms : Task → tables.Table → ℤ → ℤ → Type 0
RayForms task t a b = SumIsLeft (program task) t × ReadingForms (program task) (sum_row task t) a b

abbrev pub BestForms : Task → tables.Table → ℤ → ℤ → Type 0
BestForms task t a b =
    IsCheapest (program task) t
    × (ReadingForms (program task) (cost_row task t) a b ⊎ (TableScaleForms task t a b ⊎ DenominatorForms task t a b))

abbrev pub EndingForms : Task → tables.Table → ℤ → ℤ → Type 0
EndingForms task t a b = RayForms task t a b ⊎ BestForms task t a b

-- ---- limits
-- a price of the last row is z, above 10^14 in size
abbrev pub IsLargePrice : Task → List ℤ → ℤ → Type 0
IsLargePrice task row z =
    (i : ℕ) × ((i < (program task).rules) × (is_priced (limit_at task i) ≡ true × ((z ≡ multiplier (program task) row i) × (100000000000000 < unsigned_abs z))))

abbrev pub HasLargePrice : Task → tables.Table → ℤ → Type 0
HasLargePrice task t z =
    (SumIsLeft (program task) t × IsLargePrice task (sum_row task t) z) ⊎ (IsCheapest (program task) t × IsLargePrice task (cost_row task t) z)

-- replaying the run for so many pivots gives the number `size` that meets the limit
abbrev pub IsMetBy : Task → WideCause → ℤ → ℤ → ℕ → Type 0
IsMetBy task Product size other pivots =
    IsWide size other
    × ((MakingForms task size other × (pivots ≡ 0))
    ⊎ ((Runs task pivots × StepForms (free_columns (program task)) (state_at (program task) pivots) size other)
    ⊎ ((t : tables.Table) × (Ends task pivots t × EndingForms task t size other))))
IsMetBy task Multiplier size other pivots = (other ≡ pos 0) × ((t : tables.Table) × (Ends task pivots t × HasLargePrice task t size))
IsMetBy task Scale size other pivots =
    (other ≡ pos 0) × ((t : tables.Table) × (Ends task pivots t × (IsCheapest (program task) t × ((size ≡ scale_of task (cost_row task t)) × (pos 1000000000 <ℤ size)))))
IsMetBy task Denominator size other pivots =
    (other ≡ pos 0) × ((t : tables.Table) × (Ends task pivots t × (IsCheapest (program task) t × ((size ≡ schedule_denominator task t) × (pos 99 <ℤ size)))))
IsMetBy task Pivots size other pivots =
    (other ≡ pos 0) × ((size ≡ pos 1000000) × ((pivots ≡ 1000000)
    × (Runs task pivots × IsSome (plan_at (free_columns (program task)) (state_at (program task) pivots)))))

-- the run ends after n pivots with the table t, and no product of it, of its start or of its end is too large, and no price
pub record MeetsNone (task : Task) (n : ℕ) (t : tables.Table) : Type 0 where
  pub making : IsNarrow (MakingForms task)
  pub ends : Ends task n t
  pub ending : IsNarrow (EndingForms task t)
  pub prices : (z : ℤ) → HasLargePrice task t z → ⊥

-- ---- the answers
abbrev pub IsAnswerOf : Instance → List Pattern → Task → DispatchAnswer → Type 0
IsAnswerOf instance patterns task (Best printed table) =
    IsBestOf instance patterns printed table
    × ((n : ℕ) × ((t : tables.Table) × (MeetsNone task n t × (IsCheapest (program task) t
    × (IsReadOff task (cost_row task t) table × (pos printed.denominator ≡ schedule_denominator task t))))))
IsAnswerOf instance patterns task (Ray table) =
    IsRayOf instance patterns table × ((n : ℕ) × ((t : tables.Table) × (MeetsNone task n t × (SumIsLeft (program task) t × IsReadOff task (sum_row task t) table))))
IsAnswerOf instance patterns task (Wide what size other pivots) = IsMetBy task what size other pivots

-- the answer is that of the commitment's task
abbrev pub IsAnswer : Instance → List Pattern → DispatchAnswer → Type 0
IsAnswer instance patterns pivot = (task : Task) × (IsTaskOf instance patterns task × IsAnswerOf instance patterns task pivot)
