-- Uplifts: by how much each part of a system would do better by its own choice, at a table's prices, than by what a schedule gives
-- it. Source: P. R. Gribik, W. W. Hogan and S. L. Pope, "Market-Clearing Electricity Prices and Energy Uplift" (2007): a unit's
-- uplift is its lost opportunity cost at the prices, and at those of the Lagrangian dual the uplifts add up to the duality gap. The
-- model is the reference model by Knueven, Ostrowski and Watson, with reserve, ramps and shortages priced too.
--
-- Schedules are in whole watts, and every number is K times micro-dollars. Units and periods count from 0 here.
use Rattle.std.specs.Prelude.{◌≡◌, ℕ, ◌<◌, nat_lt, ℤ, pos, ◌+ℤ◌, ◌-ℤ◌, ◌*ℤ◌, neg_ℤ, ◌≤ℤ◌, length, slice_index_or, All, if◌then◌else◌}
use Rattle.std.specs.Int.{int_min}
use Rattle.uc_model.specs.Prelude.{sum_below, bit, thermal_unit, thermal_count, renewable_count, reserve_at, most_shed, most_short, watt_denominator, cell_at, shed_at, short_at, printed_cell_cost, printed_cost}
pub use Rattle.uc_model.specs.declared.schedule.Cell.{Cell}
pub use Rattle.uc_model.specs.declared.schedule.Printed.{Printed}
use Rattle.dual_model.specs.Prelude.{pi_at, mu_at, up_at, down_at, output_price, reserve_price, IsUnitValue, renewable_part, IsNodeValue, root}
pub use Rattle.dual_model.specs.declared.table.Table.{Table}
use Rattle.schedule_check.specs.SizedNumbers.{output_at}
use Rattle.schedule_check.specs.WholeWatts.{output_before, reserve_supply_at, row_of}
pub use Rattle.uc_model.specs.declared.instance.Instance.{Instance}
pub use Rattle.uc_model.specs.declared.instance.Thermal.{Thermal}
pub use Rattle.uplift.specs.declared.uplifts.Uplifts.{Uplifts}

-- ---- thermal units
-- what unit g is printed to cost, in micro-dollars: the hull costs of its cells, rounded up, and those of its start categories
abbrev pub printed_unit_cost : Instance → Printed → ℕ → ℤ
printed_unit_cost instance printed g =
    sum_below instance.periods (λ t. printed_cell_cost (thermal_unit instance g) (watt_denominator printed) (cell_at printed g t))

-- what the prices charge unit g for a cell in period t: A*p + B*r - pi*Pmin*u. What they pay is below 0
abbrev pub charge : Thermal → Table → ℕ → ℕ → Cell → ℤ
charge unit table g t cell =
    output_price table g t *ℤ cell.p +ℤ reserve_price table g t *ℤ cell.r -ℤ pi_at table t *ℤ (unit.pmin *ℤ bit cell.on)

abbrev pub cell_charge : Instance → Printed → Table → ℕ → ℕ → ℤ
cell_charge instance printed table g t = charge (thermal_unit instance g) table g t (cell_at printed g t)

-- what unit g costs in the schedule, and is charged, less the least of both over its own patterns, which is its value
abbrev pub thermal_uplift : Instance → Printed → Table → ℕ → ℤ → ℤ
thermal_uplift instance printed table g value =
    table.k *ℤ printed_unit_cost instance printed g +ℤ sum_below instance.periods (cell_charge instance printed table g) -ℤ value

-- the number is unit g's uplift, with its value at the root, where nothing is decided
pub record IsThermalUplift (instance : Instance) (printed : Printed) (table : Table) (g : ℕ) (uplift : ℤ) : Type 0 where
  pub value : ℤ
  pub least : IsUnitValue instance root table g value
  pub is : uplift ≡ thermal_uplift instance printed table g value

-- ---- renewable units
-- minus pi(t) times the outputs of renewable unit w, less the least that this may be, which is its part of the value
abbrev pub renewable_uplift : Instance → Printed → Table → ℕ → ℤ
renewable_uplift instance printed table w =
    sum_below instance.periods (λ t. neg_ℤ (pi_at table t *ℤ output_at printed w t)) -ℤ renewable_part instance table w

-- ---- what is missing of demand and reserve
-- a need at a multiplier that may be missing at a price: (K*price - multiplier) times what is missing, less the least that this may
-- be, min(0, K*price - multiplier) times the most that may be missing; nothing where it has no price
abbrev pub shortage_uplift : ℤ → ℕ → ℤ → ℤ → ℤ → ℤ
shortage_uplift k price multiplier most missing =
    if nat_lt 0 price then (k *ℤ pos price -ℤ multiplier) *ℤ missing -ℤ int_min (pos 0) (k *ℤ pos price -ℤ multiplier) *ℤ most
    else pos 0

abbrev pub shortage_uplift_at : Instance → Printed → Table → ℕ → ℤ
shortage_uplift_at instance printed table t =
    shortage_uplift table.k instance.a (pi_at table t) (most_shed instance t) (shed_at printed t)
    +ℤ shortage_uplift table.k instance.b (mu_at table t) (most_short instance t) (short_at printed t)

abbrev pub shed_uplift : Instance → Printed → Table → ℤ
shed_uplift instance printed table = sum_below instance.periods (shortage_uplift_at instance printed table)

-- ---- the slack of what is priced
-- mu(t) times the reserve in period t beyond what is required: the sum of r, and e, less R
abbrev pub reserve_slack_at : Instance → Printed → Table → ℕ → ℤ
reserve_slack_at instance printed table t =
    mu_at table t *ℤ (reserve_supply_at instance printed t +ℤ short_at printed t -ℤ reserve_at instance t)

abbrev pub reserve_slack : Instance → Printed → Table → ℤ
reserve_slack instance printed table = sum_below instance.periods (reserve_slack_at instance printed table)

-- up(t) and down(t) of unit g times what its ramp limits leave in period t: RU - p(t) - r(t) + p(t-1), and RD - p(t-1) + p(t)
abbrev pub ramp_slack_at : Instance → Printed → Table → ℕ → ℕ → ℤ
ramp_slack_at instance printed table g t =
    let unit = thermal_unit instance g in
    let cell = cell_at printed g t in
    let before = output_before unit (row_of printed g) t in
    up_at table g t *ℤ (unit.ru -ℤ cell.p -ℤ cell.r +ℤ before) +ℤ down_at table g t *ℤ (unit.rd -ℤ before +ℤ cell.p)

abbrev pub ramp_slack : Instance → Printed → Table → ℤ
ramp_slack instance printed table =
    sum_below (thermal_count instance) (λ g. sum_below instance.periods (ramp_slack_at instance printed table g))

-- ---- all of them
-- the number is the duality gap: K times the printed cost, less V, the value of the root
pub record IsGap (instance : Instance) (printed : Printed) (table : Table) (gap : ℤ) : Type 0 where
  pub value : ℤ
  pub bound : IsNodeValue instance root table value
  pub is : gap ≡ table.k *ℤ printed_cost instance printed -ℤ value

-- the uplift of thermal unit g, and that of renewable unit w
abbrev pub thermal_of : Uplifts → ℕ → ℤ
thermal_of uplifts g = slice_index_or uplifts.thermal g (pos 0)

abbrev pub renewable_of : Uplifts → ℕ → ℤ
renewable_of uplifts w = slice_index_or uplifts.renewable w (pos 0)

-- no number is below 0
pub record AreNonnegative (uplifts : Uplifts) : Type 0 where
  pub thermal : All (λ n. pos 0 ≤ℤ n) uplifts.thermal
  pub renewable : All (λ n. pos 0 ≤ℤ n) uplifts.renewable
  pub shed : pos 0 ≤ℤ uplifts.shed
  pub reserve : pos 0 ≤ℤ uplifts.reserve_slack
  pub ramp : pos 0 ≤ℤ uplifts.ramp_slack

-- the sum of all uplifts and slacks
abbrev pub sum_of : Uplifts → ℤ
sum_of uplifts =
    sum_below (length uplifts.thermal) (thermal_of uplifts) +ℤ sum_below (length uplifts.renewable) (renewable_of uplifts)
    +ℤ uplifts.shed +ℤ uplifts.reserve_slack +ℤ uplifts.ramp_slack

-- the uplifts and slacks of a schedule at a table: each is what it is named for, none is below 0, and the duality gap is their sum
pub record AreUplifts (instance : Instance) (printed : Printed) (table : Table) (uplifts : Uplifts) : Type 0 where
  pub thermal_units : length uplifts.thermal ≡ thermal_count instance
  pub thermal : (g : ℕ) → g < thermal_count instance → IsThermalUplift instance printed table g (thermal_of uplifts g)
  pub renewable_units : length uplifts.renewable ≡ renewable_count instance
  pub renewable : (w : ℕ) → w < renewable_count instance → renewable_of uplifts w ≡ renewable_uplift instance printed table w
  pub shed : uplifts.shed ≡ shed_uplift instance printed table
  pub reserve : uplifts.reserve_slack ≡ reserve_slack instance printed table
  pub ramp : uplifts.ramp_slack ≡ ramp_slack instance printed table
  pub total : IsGap instance printed table uplifts.total
  pub signs : AreNonnegative uplifts
  pub sum : uplifts.total ≡ sum_of uplifts
