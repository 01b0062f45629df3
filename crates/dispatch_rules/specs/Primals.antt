-- What values of the table's columns say: a dispatch of the commitment over their denominator, and its cost.
-- Source: the rules M8 to M17 and the objective of the reference model by Knueven, Ostrowski and Watson.
use Rattle.std.specs.Prelude.{◌≡◌, ℕ, zero, suc, ◌<◌, ◌==◌, nat_lt, Bool, false, ◌&&◌, List, length, ℤ, pos, ◌+ℤ◌, ◌-ℤ◌, ◌*ℤ◌, neg_ℤ, ◌≤ℤ◌, IsTrue, if◌then◌else◌}
use Rattle.uc_model.specs.Prelude.{sum_below, bit, start_cap, stop_cap, initial_p, thermal_unit, thermal_count, renewable_count, renewable_maximum, demand_at, reserve_at, most_shed, most_short, point_of, output_of, IsLawfulInstance}
use Rattle.dual_model.specs.declared.table.Table.{Table}
use Rattle.dual_model.specs.declared.node.Node.{Node}
use Rattle.dual_model.specs.Prelude.{IsNodeValue}
use Rattle.pivot_run.specs.Prelude.{entry}
use Rattle.dispatch_program.specs.Prelude.{IsLastRow, AreValues, CostValue, RightSide, place}
use Rattle.dispatch_rules.specs.Duals.{IsTask, IsReadOff, IsNodeOf, cost_times, left_costs, start_costs}
use Rattle.dispatch_rules.specs.Cells.{width_at, segments}
use Rattle.dispatch_rules.specs.Dispatch.{Task, Amount, Length, Held, Given, Shed, Short, amounts, amount_at, low_at, program, cost_of}

abbrev pub one_if : Bool → ℤ
one_if b = if b then pos 1 else pos 0

-- how much of an output, a reserve and so on an amount is: 1 or 0
abbrev pub length_in : ℕ → ℕ → ℕ → Amount → ℤ
length_in g t k (Length h s l) = one_if ((g == h) && ((t == s) && (k == l)))
length_in g t k _ = pos 0

abbrev pub output_in : ℕ → ℕ → Amount → ℤ
output_in g t (Length h s l) = one_if ((g == h) && (t == s))
output_in g t _ = pos 0

abbrev pub held_in : ℕ → ℕ → Amount → ℤ
held_in g t (Held h s) = one_if ((g == h) && (t == s))
held_in g t _ = pos 0

abbrev pub given_in : ℕ → ℕ → Amount → ℤ
given_in w t (Given h s) = one_if ((w == h) && (t == s))
given_in w t _ = pos 0

abbrev pub shed_in : ℕ → Amount → ℤ
shed_in t (Shed s) = one_if (t == s)
shed_in t _ = pos 0

abbrev pub short_in : ℕ → Amount → ℤ
short_in t (Short s) = one_if (t == s)
short_in t _ = pos 0

-- the sum of the values, each as often as its amount says
abbrev pub sum_of : Task → (ℕ → ℤ) → (Amount → ℤ) → ℤ
sum_of task v f = sum_below (length (amounts task)) (λ c. f (amount_at task c) *ℤ v c)

abbrev pub output_before : Task → ℤ → (ℕ → ℤ) → ℕ → ℕ → ℤ
output_before task d v g zero = d *ℤ initial_p (thermal_unit task.instance g)
output_before task d v g (suc t) = sum_of task v (output_in g t)

-- the values obey the rules M8 to M17, each power multiplied by d
pub record IsDispatch (task : Task) (d : ℤ) (v : ℕ → ℤ) : Type 0 where
  pub length_low : (g t k : ℕ) → pos 0 ≤ℤ sum_of task v (length_in g t k)
  pub length_high : (g t k : ℕ) → g < thermal_count task.instance → t < task.instance.periods → IsTrue (task.on g t) → k < segments (task.corners g)
      → sum_of task v (length_in g t k) ≤ℤ (d *ℤ width_at (task.corners g) k)
  pub output : (g t : ℕ) → sum_of task v (output_in g t) ≡ sum_below (segments (task.corners g)) (λ k. sum_of task v (length_in g t k))
  pub reserve_low : (g t : ℕ) → pos 0 ≤ℤ sum_of task v (held_in g t)
  pub idle_output : (g t : ℕ) → task.on g t ≡ false → sum_of task v (output_in g t) ≡ pos 0
  pub idle_reserve : (g t : ℕ) → task.on g t ≡ false → sum_of task v (held_in g t) ≡ pos 0
  pub start : (g t : ℕ) → g < thermal_count task.instance → t < task.instance.periods
      → (sum_of task v (output_in g t) +ℤ sum_of task v (held_in g t)) ≤ℤ (d *ℤ start_cap (thermal_unit task.instance g) (task.on g) t)
  pub stop : (g t : ℕ) → g < thermal_count task.instance → suc t < task.instance.periods
      → (sum_of task v (output_in g t) +ℤ sum_of task v (held_in g t)) ≤ℤ (d *ℤ stop_cap (thermal_unit task.instance g) (task.on g) t)
  pub ramp_up : (g t : ℕ) → g < thermal_count task.instance → t < task.instance.periods
      → (sum_of task v (output_in g t) +ℤ sum_of task v (held_in g t) -ℤ output_before task d v g t) ≤ℤ (d *ℤ (thermal_unit task.instance g).ru)
  pub ramp_down : (g t : ℕ) → g < thermal_count task.instance → t < task.instance.periods
      → (output_before task d v g t -ℤ sum_of task v (output_in g t)) ≤ℤ (d *ℤ (thermal_unit task.instance g).rd)
  pub renewable_low : (w t : ℕ) → pos 0 ≤ℤ sum_of task v (given_in w t)
  pub renewable_high : (w t : ℕ) → w < renewable_count task.instance → t < task.instance.periods
      → (sum_of task v (given_in w t) +ℤ d *ℤ low_at task w t) ≤ℤ (d *ℤ renewable_maximum task.instance w t)
  pub demand : (t : ℕ) → t < task.instance.periods
      → sum_below (thermal_count task.instance) (λ g. sum_of task v (output_in g t) +ℤ d *ℤ ((thermal_unit task.instance g).pmin *ℤ bit (task.on g t)))
      +ℤ sum_below (renewable_count task.instance) (λ w. sum_of task v (given_in w t) +ℤ d *ℤ low_at task w t)
      +ℤ sum_of task v (shed_in t) ≡ d *ℤ demand_at task.instance t
  pub reserve : (t : ℕ) → t < task.instance.periods
      → (d *ℤ reserve_at task.instance t)
      ≤ℤ (sum_below (thermal_count task.instance) (λ g. sum_of task v (held_in g t)) +ℤ sum_of task v (short_in t))
  pub shed_low : (t : ℕ) → pos 0 ≤ℤ sum_of task v (shed_in t)
  pub shed_high : (t : ℕ) → t < task.instance.periods → IsTrue (nat_lt 0 task.instance.a) → sum_of task v (shed_in t) ≤ℤ (d *ℤ most_shed task.instance t)
  pub no_shed : (t : ℕ) → nat_lt 0 task.instance.a ≡ false → sum_of task v (shed_in t) ≡ pos 0
  pub short_low : (t : ℕ) → pos 0 ≤ℤ sum_of task v (short_in t)
  pub short_high : (t : ℕ) → t < task.instance.periods → IsTrue (nat_lt 0 task.instance.b) → sum_of task v (short_in t) ≤ℤ (d *ℤ most_short task.instance t)
  pub no_short : (t : ℕ) → nat_lt 0 task.instance.b ≡ false → sum_of task v (short_in t) ≡ pos 0
  -- minus what the amounts cost, times the scale
  pub cost : v (place (program task) CostValue) ≡ neg_ℤ (sum_of task v (cost_of task))

abbrev pub ValuesDispatch : Type 0
ValuesDispatch = (task : Task) (d : ℤ) (v : ℕ → ℤ) → 0 < task.instance.periods → AreValues (program task) d v → IsDispatch task d v

-- ---- cost
-- scale times what the hull costs above its left end at a cell's output, on its segment; 0 where the hull has no segment
abbrev pub line_cost : Task → ℤ → (ℕ → ℤ) → ℕ → ℕ → ℕ → ℤ
line_cost task d v g t i =
    d *ℤ (task.scale *ℤ ((point_of (task.corners g) i).cost -ℤ (point_of (task.corners g) 0).cost))
    +ℤ cost_of task (Length g t i) *ℤ (sum_of task v (output_in g t) -ℤ d *ℤ output_of (task.corners g) i)

abbrev pub above_left : Task → ℤ → (ℕ → ℤ) → (ℕ → ℕ → ℕ) → ℕ → ℕ → ℤ
above_left task d v segment g t =
    if task.on g t && nat_lt 1 (length (task.corners g)) then line_cost task d v g t (segment g t) else pos 0

abbrev pub shortage_at : Task → (ℕ → ℤ) → ℕ → ℤ
shortage_at task v t =
    (pos task.instance.a *ℤ task.scale) *ℤ sum_of task v (shed_in t) +ℤ (pos task.instance.b *ℤ task.scale) *ℤ sum_of task v (short_in t)

-- scale times d times the dispatch's cost above the left ends
abbrev pub dispatch_cost : Task → ℤ → (ℕ → ℤ) → (ℕ → ℕ → ℕ) → ℤ
dispatch_cost task d v segment =
    sum_below (thermal_count task.instance) (λ g. sum_below task.instance.periods (above_left task d v segment g))
    +ℤ sum_below task.instance.periods (shortage_at task v)

-- each segment named is one of the hull, where there is one
abbrev pub AreSegments : Task → (ℕ → ℕ → ℕ) → Type 0
AreSegments task segment =
    (g t : ℕ) → g < thermal_count task.instance → t < task.instance.periods → 1 < length (task.corners g) → suc (segment g t) < length (task.corners g)

-- the value of the commitment's node is at least K times the dispatch's cost: the last cost row and the values that its basis gives
abbrev pub NodeCoversDispatch : Type 0
NodeCoversDispatch =
    (task : Task) (row : List ℤ) (table : Table) (node : Node) (d : ℤ) (v : ℕ → ℤ) (segment : ℕ → ℕ → ℕ) (value : ℤ)
    → IsLawfulInstance task.instance → IsTask task → IsLastRow (program task) row → IsReadOff task row table → IsNodeOf task node
    → IsNodeValue task.instance node table value → AreValues (program task) d v → AreSegments task segment
    → d *ℤ entry row (place (program task) RightSide) ≡ cost_times task row *ℤ v (place (program task) CostValue)
    → (d *ℤ (left_costs task row +ℤ start_costs task row) +ℤ cost_times task row *ℤ dispatch_cost task d v segment) ≤ℤ (d *ℤ value)
