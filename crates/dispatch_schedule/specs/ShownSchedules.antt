-- The schedule that a cheapest basis of a commitment's table is printed as, over the least denominator over which its amounts are whole.
-- Source: the variables of the reference model by Knueven, Ostrowski and Watson; that a denominator is printed up to 99 is this project's choice.
use Rattle.std.specs.Prelude.{◌≡◌, ℕ, ◌≤◌, ◌<◌, ◌↔◌, List, ℤ, pos, ◌*ℤ◌, ◌<ℤ◌, unsigned_abs}
use Rattle.std.specs.Int.{◌∣◌}
use Rattle.uc_model.specs.declared.instance.Instance.{Instance}
use Rattle.uc_model.specs.declared.pattern.Pattern.{Pattern}
use Rattle.uc_model.specs.Prelude.{IsLawfulInstance, thermal_count, renewable_count}
use Rattle.schedule_check.specs.SizedNumbers.{HasSizedNumbers}
use Rattle.pivot_run.specs.Prelude.{IsNarrow, IsWide, Table}
use Rattle.dispatch_program.specs.Prelude.{IsReached, AreShares, basis_values, IsCheapest}
use Rattle.dispatch_rules.specs.Prelude.{IsTaskOf, Task, amounts, program, IsTask, sum_of, output_in, held_in, given_in, shed_in, short_in, Prints}
use Rattle.dispatch_rules.specs.declared.amount.Amount.{Amount}
pub use Rattle.dispatch_schedule.specs.declared.shown.Shown.{Shown}
use Rattle.dispatch_schedule.specs.declared.shown.Shown.TheVariants.{Schedule, Fine, Wide}
use Rattle.dispatch_schedule.specs.ColumnValues.{schedule_denominator, DenominatorForms}

-- the table is reached from the start of the task's table, and its basis is a cheapest one; the amounts are the task's
pub record IsCheapestEnd (instance : Instance) (patterns : List Pattern) (listed : List Amount) (t : Table) (task : Task) : Type 0 where
  pub of : IsTaskOf instance patterns task
  pub is : IsTask task
  pub reached : IsReached (program task) t
  pub cheapest : IsCheapest (program task) t
  pub amounts : listed ≡ amounts task

-- what is shown of the basis: its schedule over the least denominator, which is at most 99; or that denominator; or the factors of a product on
-- the way to it that is too large
abbrev pub IsShown : Task → Table → Shown → Type 0
IsShown task t (Schedule printed) =
    (pos printed.denominator ≡ schedule_denominator task t) × IsNarrow (DenominatorForms task t) × HasSizedNumbers printed
    × ((d : ℤ) (share : ℕ → ℤ) → AreShares t d share → Prints task d (basis_values (program task) t d share) printed)
IsShown task t (Fine z) = (z ≡ schedule_denominator task t) × (pos 99 <ℤ z) × IsNarrow (DenominatorForms task t)
IsShown task t (Wide wide) = DenominatorForms task t wide.size wide.other × IsWide wide.size wide.other

-- ---- why it is the least
-- each power of the dispatch of the values v over d is whole over e
pub record AreWholeOver (task : Task) (d : ℤ) (v : ℕ → ℤ) (e : ℕ) : Type 0 where
  pub output : (g t : ℕ) → g < thermal_count task.instance → t < task.instance.periods → unsigned_abs d ∣ unsigned_abs (pos e *ℤ sum_of task v (output_in g t))
  pub reserve : (g t : ℕ) → g < thermal_count task.instance → t < task.instance.periods → unsigned_abs d ∣ unsigned_abs (pos e *ℤ sum_of task v (held_in g t))
  pub renewable : (w t : ℕ) → w < renewable_count task.instance → t < task.instance.periods → unsigned_abs d ∣ unsigned_abs (pos e *ℤ sum_of task v (given_in w t))
  pub shed : (t : ℕ) → t < task.instance.periods → unsigned_abs d ∣ unsigned_abs (pos e *ℤ sum_of task v (shed_in t))
  pub short : (t : ℕ) → t < task.instance.periods → unsigned_abs d ∣ unsigned_abs (pos e *ℤ sum_of task v (short_in t))

-- they are whole over just the multiples of the schedule's denominator
abbrev pub LeastDenominators : Type 0
LeastDenominators =
    (task : Task) (t : Table) (d : ℤ) (share : ℕ → ℤ) (e : ℕ) → IsLawfulInstance task.instance → IsTask task
    → IsReached (program task) t → IsCheapest (program task) t → AreShares t d share → 1 ≤ e
    → AreWholeOver task d (basis_values (program task) t d share) e ↔ (unsigned_abs (schedule_denominator task t) ∣ e)
