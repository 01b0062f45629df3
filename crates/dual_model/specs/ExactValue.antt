-- The exact value of a unit and of a node: as the value V, but with the ramps M11 and M12 kept inside the unit in place
-- of being priced. Source: the Lagrangian relaxation of the reference model by Knueven, Ostrowski and Watson that
-- prices demand (M14) and reserve (M15) alone, whose single-unit problems have ramps, as in A. Frangioni and C.
-- Gentile, "Solving Nonlinear Single-Unit Commitment Problems with Ramping Constraints" (Operations Research 54, 2006).
-- Slopes are rounded down, so that the value is whole; a schedule is rational, so outputs are whole over any
-- denominator q.
--
-- Units and periods count from 0 here.
use Rattle.std.specs.Prelude.{◌≡◌, ℕ, zero, suc, ◌-◌, ◌/◌, ◌<◌, ◌≤◌, List, false, ℤ, pos, ◌+ℤ◌, ◌-ℤ◌, ◌*ℤ◌, ◌≤ℤ◌, length, Option, Some, None, if◌then◌else◌}
use Rattle.std.specs.Int.{int_div_euclid, int_max}
use Rattle.uc_model.specs.Prelude.{sum_below, output_of, rise, Segment, segment_at, segment_width, hull_cost, Commitment, starts, start_cap, stop_cap, initial_p, last_stop, sigma, thermal_unit, thermal_count}
pub use Rattle.uc_model.specs.declared.instance.Point.{Point}
pub use Rattle.uc_model.specs.declared.instance.Thermal.{Thermal}
pub use Rattle.uc_model.specs.declared.instance.Instance.{Instance}
use Rattle.dual_model.specs.Prices.{pi_at, mu_at}
use Rattle.dual_model.specs.Fixings.{IsPatternAt}
use Rattle.dual_model.specs.UnitValue.{IsUnitValue}
use Rattle.dual_model.specs.NodeValue.{system_value, renewables_value, unit_part}
pub use Rattle.dual_model.specs.declared.node.Node.{Node}
pub use Rattle.dual_model.specs.declared.table.Table.{Table}

-- the greatest output above the first point's
abbrev pub greatest_output : List Point → ℤ
greatest_output points = output_of points (length points - 1)

-- ---- the function L
-- K times a segment's slope, rounded down to a whole number
abbrev pub floored_slope : List Point → ℤ → Option Segment → ℤ
floored_slope points k None = pos 0
floored_slope points k (Some s) = int_div_euclid (k *ℤ rise points s.left s.right) (pos (segment_width points s))

-- the slope of L from x watts above the minimum to x + 1: that of the hull's first segment that holds x + 1
abbrev pub slope_from : List Point → ℤ → ℕ → ℤ
slope_from points k x = floored_slope points k (segment_at points 1 (pos (suc x)))

-- q*L(p/q): L starts at K times the hull's left value and goes along the hull with these slopes. A step of 1/q adds its
-- slope once
unfoldable pub floored_cost : List Point → ℤ → ℕ → ℕ → ℤ
floored_cost points k q p = pos q *ℤ (k *ℤ hull_cost points 1 (pos 0)) +ℤ sum_below p (λ y. slope_from points k (y / q))

-- ---- schedules of one unit
-- a commitment with output above the minimum and reserve in each period, over q
pub record UnitSchedule : Type 0 where
  pub on : Commitment
  pub p : ℕ → ℕ
  pub r : ℕ → ℕ

-- the output in the period before t; before the first one it is given
abbrev pub output_before : ℕ → Thermal → UnitSchedule → ℕ → ℤ
output_before q unit x zero = pos q *ℤ initial_p unit
output_before q unit x (suc t) = pos (x.p t)

-- what it keeps in period t: an off cell has no output and no reserve, and an on cell's output lies on the hull; M9,
-- M10, M11 and M12, in off periods too
pub record IsUnitScheduleAt (periods q : ℕ) (unit : Thermal) (x : UnitSchedule) (t : ℕ) : Type 0 where
  pub off : x.on t ≡ false → (x.p t ≡ 0) × (x.r t ≡ 0)
  pub width : pos (x.p t) ≤ℤ (pos q *ℤ greatest_output unit.points)
  pub start_cap : (pos (x.p t) +ℤ pos (x.r t)) ≤ℤ (pos q *ℤ start_cap unit x.on t)
  pub stop_cap : suc t < periods → (pos (x.p t) +ℤ pos (x.r t)) ≤ℤ (pos q *ℤ stop_cap unit x.on t)
  pub ramp_up : (pos (x.p t) +ℤ pos (x.r t) -ℤ output_before q unit x t) ≤ℤ (pos q *ℤ unit.ru)
  pub ramp_down : (output_before q unit x t -ℤ pos (x.p t)) ≤ℤ (pos q *ℤ unit.rd)

-- a schedule of unit g over q at the node: its commitment is a pattern there
pub record IsUnitSchedule (instance : Instance) (node : Node) (g q : ℕ) (x : UnitSchedule) : Type 0 where
  pub denominator : 1 ≤ q
  pub pattern : IsPatternAt instance node g x.on
  pub each : (t : ℕ) → t < instance.periods → IsUnitScheduleAt instance.periods q (thermal_unit instance g) x t

-- unit g has no schedule of its own at the node
abbrev pub HasNoUnitSchedule : Instance → Node → ℕ → Type 0
HasNoUnitSchedule instance node g = (q : ℕ) (x : UnitSchedule) → ¬ IsUnitSchedule instance node g q x

-- unit g is the first of the instance that has none at the node
pub record IsFirstUnscheduled (instance : Instance) (node : Node) (g : ℕ) : Type 0 where
  pub within : g < thermal_count instance
  pub none : HasNoUnitSchedule instance node g
  pub first : (earlier : ℕ) → earlier < g → ¬ HasNoUnitSchedule instance node earlier

-- some unit of the instance has none at the node
pub record HasUnscheduledUnit (instance : Instance) (node : Node) : Type 0 where
  pub unit : ℕ
  pub within : unit < thermal_count instance
  pub none : HasNoUnitSchedule instance node unit

-- ---- their values, q times those in 1/K micro-dollars
-- what an on cell adds, q*L(p/q) - pi(t)*(p + q*Pmin) - mu(t)*r
abbrev pub exact_cell_value : Table → ℕ → Thermal → UnitSchedule → ℕ → ℤ
exact_cell_value table q unit x t =
    floored_cost unit.points table.k q (x.p t) -ℤ pi_at table t *ℤ (pos (x.p t) +ℤ pos q *ℤ unit.pmin)
    -ℤ mu_at table t *ℤ pos (x.r t)

-- what a period adds: that where the unit is on, and q*K times the least start cost at a start
abbrev pub exact_period_value : Table → ℕ → Thermal → UnitSchedule → ℕ → ℤ
exact_period_value table q unit x t =
    (if x.on t then exact_cell_value table q unit x t else pos 0)
    +ℤ (if starts unit x.on t then pos q *ℤ (table.k *ℤ sigma unit (last_stop unit x.on t) t) else pos 0)

abbrev pub unit_schedule_value : Instance → Table → ℕ → ℕ → UnitSchedule → ℤ
unit_schedule_value instance table g q x = sum_below instance.periods (exact_period_value table q (thermal_unit instance g) x)

-- m bounds the value of each schedule of unit g over each denominator
abbrev pub IsExactBound : Instance → Node → Table → ℕ → ℤ → Type 0
IsExactBound instance node table g m =
    (q : ℕ) (x : UnitSchedule) → IsUnitSchedule instance node g q x
    → (pos q *ℤ m) ≤ℤ unit_schedule_value instance table g q x

-- e is the value E of unit g: the greatest whole bound. There is none where the unit has no schedule
pub record IsExactUnitValue (instance : Instance) (node : Node) (table : Table) (g : ℕ) (e : ℤ) : Type 0 where
  pub q : ℕ
  pub x : UnitSchedule
  pub is_schedule : IsUnitSchedule instance node g q x
  pub bound : IsExactBound instance node table g e
  pub greatest : (m : ℤ) → IsExactBound instance node table g m → m ≤ℤ e

-- e is the least value of a schedule of unit g in whole watts
pub record IsLeastWholeValue (instance : Instance) (node : Node) (table : Table) (g : ℕ) (e : ℤ) : Type 0 where
  pub x : UnitSchedule
  pub is_schedule : IsUnitSchedule instance node g 1 x
  pub reached : e ≡ unit_schedule_value instance table g 1 x
  pub least : (other : UnitSchedule) → IsUnitSchedule instance node g 1 other → e ≤ℤ unit_schedule_value instance table g 1 other

-- what unit g adds to the node's exact value: the greater of E and of its value with its constant
abbrev pub exact_part : Instance → Table → ℕ → ℤ → ℤ → ℤ
exact_part instance table g value exact = int_max exact (unit_part instance table g value)

-- the node's value, by what each thermal unit adds: the system's part, and a part for each thermal and renewable unit
abbrev pub parts_total : Instance → Table → (ℕ → ℤ) → ℤ
parts_total instance table part = system_value instance table +ℤ sum_below (thermal_count instance) part +ℤ renewables_value instance table

-- v is the exact value VE of the node. There is none where some unit has no schedule of its own
pub record IsExactNodeValue (instance : Instance) (node : Node) (table : Table) (v : ℤ) : Type 0 where
  pub unit_value : ℕ → ℤ
  pub exact_value : ℕ → ℤ
  pub units : (g : ℕ) → g < thermal_count instance → IsUnitValue instance node table g (unit_value g)
  pub exact_units : (g : ℕ) → g < thermal_count instance → IsExactUnitValue instance node table g (exact_value g)
  pub total : v ≡ parts_total instance table (λ g. exact_part instance table g (unit_value g) (exact_value g))
