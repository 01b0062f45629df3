-- The rules M1 to M17 on a printed schedule itself, without weights: what they say where M8 holds. Source: the rules of the
-- reference model by Knueven, Ostrowski and Watson, as uc_model has them.
--
-- A limit in watts is told by a measure: as it is for a schedule in whole watts, and d times for one over a denominator d.
-- Where a name stands with `_by` and without, the one without is that of whole watts.
use Rattle.std.specs.Prelude.{◌≡◌, ℕ, zero, suc, ◌-◌, ◌≤◌, Bool, true, false, not, ◌&&◌, ◌||◌, ◌==◌, nat_lt, List, [], ℤ, pos, ◌+ℤ◌, ◌-ℤ◌, ◌*ℤ◌, ◌≤ℤ◌, int_le, length, slice_index_or, Option, Some, None, if◌then◌else◌}
use Rattle.std.specs.Int.{int_max}
use Rattle.std.specs.Ordering.{int_eq}
use Rattle.uc_model.specs.Prelude.{sum_below, bit, output_of, Commitment, must_run_at, initial_up_at, initial_down_at, minimum_up_at, minimum_down_at, initial_stop_holds, initial_p, start_cap, stop_cap, category_count, category_holds_at, thermal_unit, thermal_count, renewable_unit, renewable_count, demand_at, reserve_at, cell_at, shed_at, short_at}
use Rattle.uc_model.specs.Rules as model
pub use Rattle.uc_model.specs.declared.instance.Thermal.{Thermal}
use Rattle.uc_model.specs.declared.instance.Point.{Point}
use Rattle.uc_model.specs.declared.instance.Instance.{Instance}
use Rattle.uc_model.specs.declared.instance.Renewable.{Renewable}
use Rattle.uc_model.specs.declared.schedule.Cell.{Cell}
pub use Rattle.uc_model.specs.declared.schedule.Printed.{Printed}
use Rattle.schedule_check.specs.FirstBroken.{Broken, HoldsThroughout, FailsFirst}
use Rattle.schedule_check.specs.SizedNumbers.{IsSizedCell, output_at}
pub use Rattle.schedule_check.specs.declared.unit_rule.UnitRule.{UnitRule}
pub use Rattle.schedule_check.specs.declared.unit_rule.UnitRule.TheVariants.{MustRun, InitialUp, InitialDown, MinimumUp, MinimumDown, Category, InitialStop, Production, StartCap, StopCap, RampUp, RampDown}

-- a unit's row, its cell in period t, and the commitment that it says; past its end the unit is off
abbrev pub row_of : Printed → ℕ → List Cell
row_of printed g = slice_index_or printed.thermal g []

abbrev pub cell : List Cell → ℕ → Cell
cell row t = slice_index_or row t (record { on = false; p = pos 0; r = pos 0; category = 0 })

abbrev pub commitment : List Cell → Commitment
commitment row t = (cell row t).on

-- the measure of whole watts, and that over a denominator
abbrev pub whole : ℤ → ℤ
whole power = power

abbrev pub over : ℕ → ℤ → ℤ
over d power = pos d *ℤ power

-- each of its numbers is below 10^15 in size
abbrev pub IsSizedRow : List Cell → Type 0
IsSizedRow row = (t : ℕ) → IsSizedCell (cell row t)

abbrev pub category : List Cell → ℕ → ℕ
category row t = (cell row t).category

-- the output in the period before, which is the initial one before the first
abbrev pub output_before_by : (ℤ → ℤ) → Thermal → List Cell → ℕ → ℤ
output_before_by measure unit row zero = measure (initial_p unit)
output_before_by measure unit row (suc t) = (cell row t).p

abbrev pub output_before : Thermal → List Cell → ℕ → ℤ
output_before = output_before_by whole

abbrev pub width : List Point → ℤ
width points = output_of points (length points - 1)

-- an on cell's output lies on the hull, with reserve of at least 0; off means no output and no reserve
abbrev pub production_by : (ℤ → ℤ) → Thermal → List Cell → ℕ → Bool
production_by measure unit row t =
    let c = cell row t in
    if c.on then int_le (pos 0) c.p && int_le c.p (measure (width unit.points)) && int_le (pos 0) c.r
    else int_eq c.p (pos 0) && int_eq c.r (pos 0)

abbrev pub production_at : Thermal → List Cell → ℕ → Bool
production_at = production_by whole

abbrev pub start_cap_by : (ℤ → ℤ) → Thermal → List Cell → ℕ → Bool
start_cap_by measure unit row t = int_le ((cell row t).p +ℤ (cell row t).r) (measure (start_cap unit (commitment row) t))

abbrev pub stop_cap_by : (ℤ → ℤ) → ℕ → Thermal → List Cell → ℕ → Bool
stop_cap_by measure periods unit row t =
    not (nat_lt (suc t) periods) || int_le ((cell row t).p +ℤ (cell row t).r) (measure (stop_cap unit (commitment row) t))

abbrev pub ramp_up_by : (ℤ → ℤ) → Thermal → List Cell → ℕ → Bool
ramp_up_by measure unit row t =
    int_le ((cell row t).p +ℤ (cell row t).r -ℤ output_before_by measure unit row t) (measure unit.ru)

abbrev pub ramp_down_by : (ℤ → ℤ) → Thermal → List Cell → ℕ → Bool
ramp_down_by measure unit row t = int_le (output_before_by measure unit row t -ℤ (cell row t).p) (measure unit.rd)

-- a rule on thermal units, in period t
abbrev pub unit_holds_by : (ℤ → ℤ) → UnitRule → ℕ → Thermal → List Cell → ℕ → Bool
unit_holds_by measure MustRun periods unit row t = must_run_at unit (commitment row) t
unit_holds_by measure InitialUp periods unit row t = initial_up_at unit (commitment row) t
unit_holds_by measure InitialDown periods unit row t = initial_down_at unit (commitment row) t
unit_holds_by measure MinimumUp periods unit row t = minimum_up_at periods unit (commitment row) t
unit_holds_by measure MinimumDown periods unit row t = minimum_down_at periods unit (commitment row) t
unit_holds_by measure Category periods unit row t = category_holds_at unit (commitment row) (category row) t
unit_holds_by measure InitialStop periods unit row t = initial_stop_holds unit (commitment row)
unit_holds_by measure Production periods unit row t = production_by measure unit row t
unit_holds_by measure StartCap periods unit row t = start_cap_by measure unit row t
unit_holds_by measure StopCap periods unit row t = stop_cap_by measure periods unit row t
unit_holds_by measure RampUp periods unit row t = ramp_up_by measure unit row t
unit_holds_by measure RampDown periods unit row t = ramp_down_by measure unit row t

abbrev pub unit_holds : UnitRule → ℕ → Thermal → List Cell → ℕ → Bool
unit_holds = unit_holds_by whole

-- its name among the model's rules
abbrev pub rule_of : UnitRule → model.Rule
rule_of MustRun = model.MustRun
rule_of InitialUp = model.InitialUp
rule_of InitialDown = model.InitialDown
rule_of MinimumUp = model.MinimumUp
rule_of MinimumDown = model.MinimumDown
rule_of Category = model.Category
rule_of InitialStop = model.InitialStop
rule_of Production = model.Production
rule_of StartCap = model.StartCap
rule_of StopCap = model.StopCap
rule_of RampUp = model.RampUp
rule_of RampDown = model.RampDown

-- in how many periods it is looked at
abbrev pub unit_periods : UnitRule → ℕ → ℕ
unit_periods rule periods = if model.rule_number (rule_of rule) == 7 then 1 else periods

-- M13 to M17
-- an output of a renewable unit lies between its limits
abbrev pub is_output_within : (ℤ → ℤ) → Renewable → List ℤ → ℕ → Bool
is_output_within measure unit outputs t =
    int_le (measure (int_max (slice_index_or unit.minimum t (pos 0)) (pos 0))) (slice_index_or outputs t (pos 0))
    && int_le (slice_index_or outputs t (pos 0)) (measure (slice_index_or unit.maximum t (pos 0)))

abbrev pub renewable_range_at : (ℤ → ℤ) → Instance → Printed → ℕ → ℕ → Bool
renewable_range_at measure instance printed w t =
    is_output_within measure (renewable_unit instance w) (slice_index_or printed.renewable w []) t

abbrev pub thermal_supply_by : (ℤ → ℤ) → Instance → Printed → ℕ → ℕ → ℤ
thermal_supply_by measure instance printed g t =
    (cell_at printed g t).p +ℤ measure ((thermal_unit instance g).pmin *ℤ bit (cell_at printed g t).on)

abbrev pub thermal_supply : Instance → Printed → ℕ → ℕ → ℤ
thermal_supply = thermal_supply_by whole

abbrev pub supply_by : (ℤ → ℤ) → Instance → Printed → ℕ → ℤ
supply_by measure instance printed t =
    sum_below (thermal_count instance) (λ g. thermal_supply_by measure instance printed g t)
    +ℤ sum_below (renewable_count instance) (λ w. output_at printed w t)

abbrev pub supply_at : Instance → Printed → ℕ → ℤ
supply_at = supply_by whole

abbrev pub reserve_supply_at : Instance → Printed → ℕ → ℤ
reserve_supply_at instance printed t = sum_below (thermal_count instance) (λ g. (cell_at printed g t).r)

abbrev pub demand_holds : (ℤ → ℤ) → Instance → Printed → ℕ → Bool
demand_holds measure instance printed t =
    int_eq (supply_by measure instance printed t +ℤ shed_at printed t) (measure (demand_at instance t))

abbrev pub reserve_holds : (ℤ → ℤ) → Instance → Printed → ℕ → Bool
reserve_holds measure instance printed t =
    int_le (measure (reserve_at instance t)) (reserve_supply_at instance printed t +ℤ short_at printed t)

-- what is missing of a need is from 0 to the need, or 0 where that is below 0, and 0 where it has no price
abbrev pub is_shortage_within : (ℤ → ℤ) → ℕ → List ℤ → List ℤ → ℕ → Bool
is_shortage_within measure price needs shortages t =
    let missing = slice_index_or shortages t (pos 0) in
    int_le (pos 0) missing && int_le missing (measure (int_max (slice_index_or needs t (pos 0)) (pos 0)))
    && (nat_lt 0 price || int_eq missing (pos 0))

abbrev pub shed_holds : (ℤ → ℤ) → Instance → Printed → ℕ → Bool
shed_holds measure instance printed t = is_shortage_within measure instance.a instance.demand printed.shed t

abbrev pub short_holds : (ℤ → ℤ) → Instance → Printed → ℕ → Bool
short_holds measure instance printed t = is_shortage_within measure instance.b instance.reserves printed.short t

-- each rule on the printed schedule, for a unit and a period
abbrev pub holds_by : (ℤ → ℤ) → model.Rule → Instance → Printed → ℕ → ℕ → Bool
holds_by measure model.MustRun instance printed g t = unit_holds_by measure MustRun instance.periods (thermal_unit instance g) (row_of printed g) t
holds_by measure model.InitialUp instance printed g t = unit_holds_by measure InitialUp instance.periods (thermal_unit instance g) (row_of printed g) t
holds_by measure model.InitialDown instance printed g t = unit_holds_by measure InitialDown instance.periods (thermal_unit instance g) (row_of printed g) t
holds_by measure model.MinimumUp instance printed g t = unit_holds_by measure MinimumUp instance.periods (thermal_unit instance g) (row_of printed g) t
holds_by measure model.MinimumDown instance printed g t = unit_holds_by measure MinimumDown instance.periods (thermal_unit instance g) (row_of printed g) t
holds_by measure model.Category instance printed g t = unit_holds_by measure Category instance.periods (thermal_unit instance g) (row_of printed g) t
holds_by measure model.InitialStop instance printed g t = unit_holds_by measure InitialStop instance.periods (thermal_unit instance g) (row_of printed g) t
holds_by measure model.Production instance printed g t = unit_holds_by measure Production instance.periods (thermal_unit instance g) (row_of printed g) t
holds_by measure model.StartCap instance printed g t = unit_holds_by measure StartCap instance.periods (thermal_unit instance g) (row_of printed g) t
holds_by measure model.StopCap instance printed g t = unit_holds_by measure StopCap instance.periods (thermal_unit instance g) (row_of printed g) t
holds_by measure model.RampUp instance printed g t = unit_holds_by measure RampUp instance.periods (thermal_unit instance g) (row_of printed g) t
holds_by measure model.RampDown instance printed g t = unit_holds_by measure RampDown instance.periods (thermal_unit instance g) (row_of printed g) t
holds_by measure model.RenewableRange instance printed w t = renewable_range_at measure instance printed w t
holds_by measure model.Demand instance printed _ t = demand_holds measure instance printed t
holds_by measure model.Reserve instance printed _ t = reserve_holds measure instance printed t
holds_by measure model.ShedRange instance printed _ t = shed_holds measure instance printed t
holds_by measure model.ShortRange instance printed _ t = short_holds measure instance printed t

abbrev pub holds_at : model.Rule → Instance → Printed → ℕ → ℕ → Bool
holds_at = holds_by whole

-- on the numerators of the schedule, over its denominator
abbrev pub numerators_hold : model.Rule → Instance → Printed → ℕ → ℕ → Bool
numerators_hold rule instance printed = holds_by (over printed.denominator) rule instance printed

-- the first place at which a printed schedule breaks a rule, or none where it keeps them all
abbrev pub IsFirstBrokenOf : Instance → Printed → Option Broken → Type 0
IsFirstBrokenOf instance printed None = (rule : model.Rule) → HoldsThroughout instance (λ r. numerators_hold r instance printed) rule
IsFirstBrokenOf instance printed (Some broken) = FailsFirst instance (λ r. numerators_hold r instance printed) broken

-- the same of the rules on thermal units, which come first
abbrev pub IsFirstUnitBroken : Instance → Printed → Option Broken → Type 0
IsFirstUnitBroken instance printed None = (rule : UnitRule) → HoldsThroughout instance (λ r. numerators_hold r instance printed) (rule_of rule)
IsFirstUnitBroken instance printed (Some broken) = FailsFirst instance (λ r. numerators_hold r instance printed) broken

-- ---- the cost
-- a cell can be priced: its output lies on the hull where it is on, and its category is one of the unit's
pub record HasPriceBy (measure : ℤ → ℤ) (unit : Thermal) (cell : Cell) : Type 0 where
  pub low : cell.on ≡ true → pos 0 ≤ℤ cell.p
  pub high : cell.on ≡ true → cell.p ≤ℤ measure (width unit.points)
  pub category : cell.category ≤ category_count unit

abbrev pub HasPrice : Thermal → Cell → Type 0
HasPrice = HasPriceBy whole

-- a schedule of which only what is missing is told, over a denominator
abbrev pub lacking_alone : ℕ → List ℤ → List ℤ → Printed
lacking_alone denominator shed short = record { thermal = []; renewable = []; shed = shed; short = short; denominator = denominator }
