-- The schedule that a commitment's dispatch is printed as, in whole numerators over a denominator of its own.
-- Source: the variables of the reference model by Knueven, Ostrowski and Watson.
use Rattle.std.specs.Prelude.{◌≡◌, ℕ, ◌<◌, [], slice_index_or, ℤ, pos, ◌+ℤ◌, ◌*ℤ◌}
use Rattle.uc_model.specs.Prelude.{thermal_unit, thermal_count, renewable_count, HasShapeOf, cell_at, shed_at, short_at}
pub use Rattle.uc_model.specs.declared.schedule.Printed.{Printed}
use Rattle.start_costs.specs.Cheapest.{HasLeastCategory}
use Rattle.dispatch_rules.specs.Dispatch.{Task, low_at}
use Rattle.dispatch_rules.specs.Primals.{sum_of, output_in, held_in, given_in, shed_in, short_in}

-- the printed schedule is the dispatch of the values v over d: its commitment, the least category of each start, and each power of it over
-- the printed denominator
pub record Prints (task : Task) (d : ℤ) (v : ℕ → ℤ) (printed : Printed) : Type 0 where
  pub shape : HasShapeOf task.instance printed
  pub on : (g t : ℕ) → g < thermal_count task.instance → t < task.instance.periods → (cell_at printed g t).on ≡ task.on g t
  pub category : (g t : ℕ) → g < thermal_count task.instance → t < task.instance.periods
      → HasLeastCategory (thermal_unit task.instance g) (task.on g) t (cell_at printed g t).category
  pub output : (g t : ℕ) → g < thermal_count task.instance → t < task.instance.periods
      → d *ℤ (cell_at printed g t).p ≡ pos printed.denominator *ℤ sum_of task v (output_in g t)
  pub reserve : (g t : ℕ) → g < thermal_count task.instance → t < task.instance.periods
      → d *ℤ (cell_at printed g t).r ≡ pos printed.denominator *ℤ sum_of task v (held_in g t)
  pub renewable : (w t : ℕ) → w < renewable_count task.instance → t < task.instance.periods
      → d *ℤ slice_index_or (slice_index_or printed.renewable w []) t (pos 0)
      ≡ pos printed.denominator *ℤ (sum_of task v (given_in w t) +ℤ d *ℤ low_at task w t)
  pub shed : (t : ℕ) → t < task.instance.periods → d *ℤ shed_at printed t ≡ pos printed.denominator *ℤ sum_of task v (shed_in t)
  pub short : (t : ℕ) → t < task.instance.periods → d *ℤ short_at printed t ≡ pos printed.denominator *ℤ sum_of task v (short_in t)
