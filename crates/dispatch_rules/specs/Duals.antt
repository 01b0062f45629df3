-- What a last row of a commitment's table says: a table of prices, and a bound of each on cell at it, that sum to its right side.
-- Source: duality of linear programs (G. B. Dantzig, "Linear Programming and Extensions", 1963), for the rules of the reference model by Knueven,
-- Ostrowski and Watson.
use Rattle.std.specs.Prelude.{◌≡◌, ℕ, suc, ◌<◌, List, length, ℤ, pos, ◌+ℤ◌, ◌-ℤ◌, ◌*ℤ◌, neg_ℤ, ◌≤ℤ◌, ◌<ℤ◌, IsTrue, if◌then◌else◌}
use Rattle.uc_model.specs.Prelude.{sum_below, point_of, Commitment, start_cap, stop_cap, initial_p, IsLawfulInstance, Production, StartCap, StopCap, RampUp, RampDown, RenewableRange, Demand, Reserve, ShedRange, ShortRange, thermal_unit, thermal_count, renewable_count, renewable_maximum, demand_at, reserve_at}
use Rattle.cost_curves.specs.LowerHull.{IsLowerHull}
use Rattle.dual_model.specs.declared.table.Table.{Table}
use Rattle.dual_model.specs.declared.node.Node.{Node}
use Rattle.dual_model.specs.Prelude.{HasSizeOf, pi_at, mu_at, up_at, down_at, IsPatternAt, IsNodeValue, least_start_cost}
use Rattle.pivot_run.specs.Prelude.{entry}
use Rattle.dispatch_program.specs.Prelude.{CostValue, RightSide, place, multiplier, IsLastRow}
use Rattle.dispatch_rules.specs.Cells.{width_at, rise_at, cell_bound}
use Rattle.dispatch_rules.specs.Dispatch.{Task, Length, Limit, limit, copies, right_of, cost_of, low_at, program, times_of}

-- corners and scale belong to the instance
pub record IsTask (task : Task) : Type 0 where
  pub periods : 0 < task.instance.periods
  pub hulls : (g : ℕ) → g < thermal_count task.instance → IsLowerHull (thermal_unit task.instance g).points (task.corners g)
  pub scale : pos 0 <ℤ task.scale
  pub whole : (g t k : ℕ) → g < thermal_count task.instance → t < task.instance.periods → IsTrue (task.on g t) → suc k < length (task.corners g)
      → cost_of task (Length g t k) *ℤ width_at (task.corners g) k ≡ task.scale *ℤ rise_at (task.corners g) k

-- how often a limit stands in the row, and the scale and the multipliers of the priced rules that it gives
abbrev pub times_at : Task → List ℤ → Limit → ℤ
times_at task row = times_of task (multiplier (program task) row)

abbrev pub cost_times : Task → List ℤ → ℤ
cost_times task row = entry row (place (program task) CostValue)

abbrev pub scale_of : Task → List ℤ → ℤ
scale_of task row = cost_times task row *ℤ task.scale

abbrev pub pi_of : Task → List ℤ → ℕ → ℤ
pi_of task row t = neg_ℤ (times_at task row (limit Demand 0 t 0))

abbrev pub mu_of : Task → List ℤ → ℕ → ℤ
mu_of task row t = times_at task row (limit Reserve 0 t 0)

abbrev pub up_of : Task → List ℤ → ℕ → ℕ → ℤ
up_of task row g t = times_at task row (limit RampUp g t 0)

abbrev pub down_of : Task → List ℤ → ℕ → ℕ → ℤ
down_of task row g t = times_at task row (limit RampDown g t 0)

-- A and B of a cell at these
abbrev pub output_price : Task → List ℤ → ℕ → ℕ → ℤ
output_price task row g t =
    up_of task row g t -ℤ pi_of task row t -ℤ up_of task row g (suc t) -ℤ down_of task row g t +ℤ down_of task row g (suc t)

abbrev pub reserve_price : Task → List ℤ → ℕ → ℕ → ℤ
reserve_price task row g t = up_of task row g t -ℤ mu_of task row t

-- the bound of a cell that its own limits give
abbrev pub caps_of : Task → List ℤ → ℕ → ℕ → ℤ
caps_of task row g t =
    times_at task row (limit StartCap g t 0) *ℤ start_cap (thermal_unit task.instance g) (task.on g) t
    +ℤ times_at task row (limit StopCap g t 0) *ℤ stop_cap (thermal_unit task.instance g) (task.on g) t

abbrev pub bound_of : Task → List ℤ → ℕ → ℕ → ℤ
bound_of task row g t =
    cell_bound (task.corners g) (scale_of task row) (λ k. times_at task row (limit Production g t k)) (caps_of task row g t)

-- the parts of a node's value with these bounds: of the system in a period, of a thermal unit, of a renewable unit in a period
abbrev pub limited : Task → List ℤ → ℕ → ℤ
limited task row t =
    sum_below (copies task ShedRange 0 t) (λ k. times_at task row (limit ShedRange 0 t k) *ℤ right_of task (limit ShedRange 0 t k))
    +ℤ sum_below (copies task ShortRange 0 t) (λ k. times_at task row (limit ShortRange 0 t k) *ℤ right_of task (limit ShortRange 0 t k))

abbrev pub needs_part : Task → List ℤ → ℕ → ℤ
needs_part task row t =
    pi_of task row t *ℤ demand_at task.instance t +ℤ mu_of task row t *ℤ reserve_at task.instance t -ℤ limited task row t

abbrev pub period_part : Task → List ℤ → ℕ → ℕ → ℤ
period_part task row g t =
    if task.on g t then bound_of task row g t -ℤ pi_of task row t *ℤ (thermal_unit task.instance g).pmin else pos 0

abbrev pub constant_part : Task → List ℤ → ℕ → ℤ
constant_part task row g =
    sum_below task.instance.periods (λ t.
    neg_ℤ (up_of task row g t *ℤ (thermal_unit task.instance g).ru) -ℤ down_of task row g t *ℤ (thermal_unit task.instance g).rd)
    +ℤ (down_of task row g 0 -ℤ up_of task row g 0) *ℤ initial_p (thermal_unit task.instance g)

abbrev pub renewable_part : Task → List ℤ → ℕ → ℕ → ℤ
renewable_part task row w t =
    neg_ℤ (times_at task row (limit RenewableRange w t 0) *ℤ (renewable_maximum task.instance w t -ℤ low_at task w t))
    -ℤ pi_of task row t *ℤ low_at task w t

abbrev pub total_part : Task → List ℤ → ℤ
total_part task row =
    sum_below task.instance.periods (needs_part task row)
    +ℤ sum_below (thermal_count task.instance) (λ g. sum_below task.instance.periods (period_part task row g) +ℤ constant_part task row g)
    +ℤ sum_below (renewable_count task.instance) (λ w. sum_below task.instance.periods (renewable_part task row w))

-- K times the cost of the left ends of the on cells
abbrev pub left_cost : Task → List ℤ → ℕ → ℕ → ℤ
left_cost task row g t = if task.on g t then scale_of task row *ℤ (point_of (task.corners g) 0).cost else pos 0

abbrev pub left_costs : Task → List ℤ → ℤ
left_costs task row = sum_below (thermal_count task.instance) (λ g. sum_below task.instance.periods (left_cost task row g))

-- K times the least start costs
abbrev pub start_cost : Task → List ℤ → ℕ → ℕ → ℤ
start_cost task row g t = scale_of task row *ℤ least_start_cost (thermal_unit task.instance g) (task.on g) t

abbrev pub start_costs : Task → List ℤ → ℤ
start_costs task row = sum_below (thermal_count task.instance) (λ g. sum_below task.instance.periods (start_cost task row g))

-- the table is read off the row
pub record IsReadOff (task : Task) (row : List ℤ) (table : Table) : Type 0 where
  pub size : HasSizeOf task.instance table
  pub scale : table.k ≡ scale_of task row
  pub pi : (t : ℕ) → t < task.instance.periods → pi_at table t ≡ pi_of task row t
  pub mu : (t : ℕ) → t < task.instance.periods → mu_at table t ≡ mu_of task row t
  pub up : (g t : ℕ) → g < thermal_count task.instance → t < task.instance.periods → up_at table g t ≡ up_of task row g t
  pub down : (g t : ℕ) → g < thermal_count task.instance → t < task.instance.periods → down_at table g t ≡ down_of task row g t

-- the node leaves each unit the pattern of the commitment alone
pub record IsNodeOf (task : Task) (node : Node) : Type 0 where
  pub alone : (g : ℕ) (other : Commitment) → g < thermal_count task.instance → IsPatternAt task.instance node g other
      → (t : ℕ) → t < task.instance.periods → task.on g t ≡ other t

-- the value of the commitment's node is at least what the right side of the row says
abbrev pub LastRowsBound : Type 0
LastRowsBound =
    (task : Task) (row : List ℤ) (table : Table) (node : Node) (v : ℤ) → IsLawfulInstance task.instance → IsTask task
    → IsLastRow (program task) row → IsReadOff task row table → IsNodeOf task node → IsNodeValue task.instance node table v
    → (left_costs task row +ℤ start_costs task row -ℤ entry row (place (program task) RightSide)) ≤ℤ v
