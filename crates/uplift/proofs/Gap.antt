-- The duality gap is the sum of the uplifts and slacks.
use Rattle.std.proofs.Common.{◌≡◌, ℕ, ◌<◌, ◌≤◌, refl, ap, ◌∙◌, arith, length, ℤ, pos, ◌+ℤ◌, ◌-ℤ◌, ◌*ℤ◌, neg_ℤ}
use Rattle.std.proofs.lemmas.Bool.{cases_Bool, cond-true, cond-false, ltb-false}
use Rattle.uc_model.specs.Prelude.{sum_below, bit, thermal_unit, thermal_count, renewable_count, demand_at, reserve_at, most_shed, most_short, cell_at, shed_at, short_at, printed_cost, printed_shortage_cost}
use Rattle.uc_model.proofs.Common.{linear, mul-add, mul-zero, mul_assoc, sub-mul, sum_below-add, sum_below-sub, sum_below-neg, sum_below-mul_left, sum_below-same, quotient_up-one, IsShortage}
use Rattle.dual_model.specs.Prelude.{constant_at, node_total, renewable_part, renewables_value, shortage_value, shortages_value, system_value, unit_part, HasSizeOf, pi_at, mu_at, up_at, down_at}
use Rattle.dual_model.proofs.Multipliers.{up_at_past, down_at_past}
use Rattle.schedule_check.specs.SizedNumbers.{output_at}
use Rattle.schedule_check.specs.WholeWatts.{output_before, row_of, thermal_supply}
use Rattle.uplift.specs.Uplift.{Instance, Printed, Table, cell_charge, printed_unit_cost, ramp_slack, ramp_slack_at, renewable_uplift, reserve_slack, shed_uplift, shortage_uplift, shortage_uplift_at, thermal_uplift}
use Rattle.uplift.proofs.Whole.{IsWhole, demand_met, shed_within, short_within}
use Rattle.uplift.proofs.Regrouped.{system_regrouped, unit_regrouped}

-- what the prices pay unit g for its output and reserve, and renewable unit w
abbrev bought : Instance → Printed → Table → ℕ → ℤ
bought instance printed table g =
    sum_below instance.periods (λ t. pi_at table t *ℤ thermal_supply instance printed g t +ℤ mu_at table t *ℤ (cell_at printed g t).r)

abbrev sold : Instance → Printed → Table → ℕ → ℤ
sold instance printed table w = sum_below instance.periods (λ t. pi_at table t *ℤ output_at printed w t)

-- what they would pay for what is missing, and pay for what is needed without it
abbrev unpaid : Printed → Table → ℕ → ℤ
unpaid printed table t = pi_at table t *ℤ shed_at printed t +ℤ mu_at table t *ℤ short_at printed t

abbrev needed : Instance → Printed → Table → ℕ → ℤ
needed instance printed table t = pi_at table t *ℤ demand_at instance t +ℤ mu_at table t *ℤ reserve_at instance t -ℤ unpaid printed table t

-- ---- thermal units
unit_is : (instance : Instance) (printed : Printed) (table : Table) (g : ℕ) → HasSizeOf instance table
    → sum_below instance.periods (cell_charge instance printed table g) +ℤ sum_below instance.periods (ramp_slack_at instance printed table g)
    ≡ neg_ℤ (constant_at instance table g) -ℤ bought instance printed table g
unit_is instance printed table g size =
    let unit = thermal_unit instance g in
    let ends : length table.pi ≤ instance.periods = omega (arith, size.periods) in
    unit_regrouped unit.ru unit.rd (up_at table g) (down_at table g) (pi_at table) (mu_at table) (λ t. (cell_at printed g t).p)
    (λ t. (cell_at printed g t).r) (λ t. unit.pmin *ℤ bit (cell_at printed g t).on) (output_before unit (row_of printed g)) (λ t. refl)
    instance.periods
    (up_at_past table table.units (length table.pi) g instance.periods size.form.rows ends)
    (down_at_past table table.units (length table.pi) g instance.periods size.form.rows ends)

units_are : (instance : Instance) (printed : Printed) (table : Table) (unit_value : ℕ → ℤ) → HasSizeOf instance table
    → sum_below (thermal_count instance) (λ g. thermal_uplift instance printed table g (unit_value g)) +ℤ ramp_slack instance printed table
    ≡ table.k *ℤ sum_below (thermal_count instance) (printed_unit_cost instance printed)
    -ℤ sum_below (thermal_count instance) (λ g. unit_part instance table g (unit_value g))
    -ℤ sum_below (thermal_count instance) (bought instance printed table)
units_are instance printed table unit_value size =
    let units = thermal_count instance in
    let cost = printed_unit_cost instance printed in
    let constant = constant_at instance table in
    let paid = bought instance printed table in
    let charged = λ (g : ℕ). sum_below instance.periods (cell_charge instance printed table g) in
    let left = λ (g : ℕ). sum_below instance.periods (ramp_slack_at instance printed table g) in
    let uplifts = sum_below-sub units (λ g. table.k *ℤ cost g +ℤ charged g) unit_value in
    let reduced = sum_below-add units (λ g. table.k *ℤ cost g) charged in
    let costs = sum_below-mul_left units table.k cost in
    let each = sum_below-same units (λ g. charged g +ℤ left g) (λ g. neg_ℤ (constant g) -ℤ paid g) (λ g l. unit_is instance printed table g size) in
    let both = sum_below-add units charged left in
    let apart = sum_below-sub units (λ g. neg_ℤ (constant g)) paid in
    let constants = sum_below-neg units constant in
    let parts = sum_below-add units unit_value constant in
    omega (arith, linear, uplifts, reduced, costs, each, both, apart, constants, parts)

-- ---- renewable units
renewables_are : (instance : Instance) (printed : Printed) (table : Table)
    → sum_below (renewable_count instance) (renewable_uplift instance printed table)
    ≡ neg_ℤ (sum_below (renewable_count instance) (sold instance printed table)) -ℤ renewables_value instance table
renewables_are instance printed table =
    let units = renewable_count instance in
    let paid = sold instance printed table in
    let lost = λ (w : ℕ). sum_below instance.periods (λ t. neg_ℤ (pi_at table t *ℤ output_at printed w t)) in
    let apart = sum_below-sub units lost (renewable_part instance table) in
    let each = sum_below-same units lost (λ w. neg_ℤ (paid w)) (λ w l. sum_below-neg instance.periods (λ t. pi_at table t *ℤ output_at printed w t)) in
    let whole = sum_below-neg units paid in
    omega (arith, linear, apart, each, whole)

-- ---- what is missing
shortage_is : (k : ℤ) (price : ℕ) (multiplier most missing : ℤ) → IsShortage 1 price most missing
    → shortage_uplift k price multiplier most missing
    ≡ k *ℤ (pos price *ℤ missing) -ℤ multiplier *ℤ missing -ℤ shortage_value k price multiplier most
shortage_is k price multiplier most missing h = grind (arith, linear, cond-true, sub-mul, mul_assoc, cond-false, mul-zero, cases_Bool, ltb-false, h)

-- in whole watts nothing is rounded up
cost_is : (instance : Instance) (printed : Printed) (t : ℕ) → printed.denominator ≡ 1
    → printed_shortage_cost instance printed t ≡ pos instance.a *ℤ shed_at printed t +ℤ pos instance.b *ℤ short_at printed t
cost_is instance printed t one = grind (arith, linear, quotient_up-one, one)

shortage_at_is : (instance : Instance) (printed : Printed) (table : Table) (t : ℕ) → IsWhole instance printed → t < instance.periods
    → shortage_uplift_at instance printed table t
    ≡ table.k *ℤ printed_shortage_cost instance printed t -ℤ unpaid printed table t -ℤ shortages_value instance table t
shortage_at_is instance printed table t h ht =
    let shed = shortage_is table.k instance.a (pi_at table t) (most_shed instance t) (shed_at printed t) (shed_within instance printed h t ht) in
    let short = shortage_is table.k instance.b (mu_at table t) (most_short instance t) (short_at printed t) (short_within instance printed h t ht) in
    let cost = ap (λ z. table.k *ℤ z) (cost_is instance printed t h.one)
    ∙ mul-add table.k (pos instance.a *ℤ shed_at printed t) (pos instance.b *ℤ short_at printed t) in
    omega (arith, linear, shed, short, cost)

shortages_are : (instance : Instance) (printed : Printed) (table : Table) → IsWhole instance printed
    → shed_uplift instance printed table
    ≡ table.k *ℤ sum_below instance.periods (printed_shortage_cost instance printed) -ℤ sum_below instance.periods (unpaid printed table)
    -ℤ sum_below instance.periods (shortages_value instance table)
shortages_are instance printed table h =
    let n = instance.periods in
    let cost = printed_shortage_cost instance printed in
    let paid = unpaid printed table in
    let value = shortages_value instance table in
    let each = sum_below-same n (shortage_uplift_at instance printed table) (λ t. table.k *ℤ cost t -ℤ paid t -ℤ value t)
    (λ t ht. shortage_at_is instance printed table t h ht) in
    let outer = sum_below-sub n (λ t. table.k *ℤ cost t -ℤ paid t) value in
    let inner = sum_below-sub n (λ t. table.k *ℤ cost t) paid in
    let costs = sum_below-mul_left n table.k cost in
    omega (arith, linear, each, outer, inner, costs)

-- ---- the system
system_is : (instance : Instance) (printed : Printed) (table : Table)
    → system_value instance table
    ≡ sum_below instance.periods (needed instance printed table) +ℤ sum_below instance.periods (unpaid printed table)
    +ℤ sum_below instance.periods (shortages_value instance table)
system_is instance printed table =
    let n = instance.periods in
    let needs = λ (t : ℕ). pi_at table t *ℤ demand_at instance t +ℤ mu_at table t *ℤ reserve_at instance t in
    let whole = sum_below-add n needs (shortages_value instance table) in
    let apart = sum_below-sub n needs (unpaid printed table) in
    omega (arith, linear, whole, apart)

-- the whole
pub gap_is : (instance : Instance) (printed : Printed) (table : Table) (unit_value : ℕ → ℤ) → IsWhole instance printed → HasSizeOf instance table
    → table.k *ℤ printed_cost instance printed -ℤ node_total instance table unit_value
    ≡ sum_below (thermal_count instance) (λ g. thermal_uplift instance printed table g (unit_value g))
    +ℤ sum_below (renewable_count instance) (renewable_uplift instance printed table) +ℤ shed_uplift instance printed table
    +ℤ reserve_slack instance printed table +ℤ ramp_slack instance printed table
gap_is instance printed table unit_value h size =
    let units = units_are instance printed table unit_value size in
    let renewables = renewables_are instance printed table in
    let shortages = shortages_are instance printed table h in
    let system = system_is instance printed table in
    let paid = system_regrouped instance.periods (thermal_count instance) (renewable_count instance) (pi_at table) (mu_at table)
    (thermal_supply instance printed) (λ g t. (cell_at printed g t).r) (output_at printed) (demand_at instance) (reserve_at instance)
    (shed_at printed) (short_at printed) (λ t ht. demand_met instance printed h t ht) in
    let cost = mul-add table.k (sum_below (thermal_count instance) (printed_unit_cost instance printed))
    (sum_below instance.periods (printed_shortage_cost instance printed)) in
    omega (arith, linear, units, renewables, shortages, system, paid, cost)
