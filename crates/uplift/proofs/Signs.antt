-- No uplift and no slack is below 0: each choice costs at least the least of its kind, and no priced rule is broken.
use Rattle.std.proofs.Common.{ℕ, ◌<◌, arith, ℤ, pos, ◌+ℤ◌, ◌-ℤ◌, ◌*ℤ◌, neg_ℤ, ◌≤ℤ◌, nat_lt, int_lt, if◌then◌else◌}
use Rattle.std.specs.Int.{int_min, int_max}
use Rattle.std.proofs.lemmas.Int.{ints}
use Rattle.std.proofs.lemmas.Bool.{cond_both}
use Rattle.uc_model.specs.Prelude.{sum_below, thermal_unit, thermal_count, renewable_count, renewable_minimum, renewable_maximum, most_shed, most_short, cell_at, shed_at, short_at}
use Rattle.uc_model.proofs.Common.{linear, le_refl, mul-le-mul_left, mul-le-mul_right, mul-le-mul_turned, mul_nonneg, one-mul, sum_below-le, sum_below_nonneg, int_min_left, int_min_right, IsShortage}
use Rattle.dual_model.specs.Prelude.{renewable_value, HasLawfulSigns, pi_at, mu_at, up_at, down_at}
use Rattle.dual_model.proofs.Multipliers.{mu_at_nonneg, signed_at}
use Rattle.schedule_check.specs.SizedNumbers.{output_at}
use Rattle.schedule_check.specs.WholeWatts.{output_before, row_of}
use Rattle.uplift.specs.Uplift.{Instance, Printed, Table, ramp_slack, ramp_slack_at, renewable_uplift, reserve_slack, reserve_slack_at, shed_uplift, shortage_uplift, shortage_uplift_at}
use Rattle.uplift.proofs.Whole.{IsWhole, fall, output_within, reserve_met, rise, shed_within, short_within}

-- ---- renewable units
-- what an output is paid is at most what the best one is
best_is : (pi low high output : ℤ) → low ≤ℤ output → output ≤ℤ high
    → (if int_lt (pos 0) pi then neg_ℤ (pi *ℤ high) else neg_ℤ (pi *ℤ low)) ≤ℤ neg_ℤ (pi *ℤ output)
best_is pi low high output above below =
    cond_both (int_lt (pos 0) pi) (neg_ℤ (pi *ℤ high)) (neg_ℤ (pi *ℤ low)) (λ v. v ≤ℤ neg_ℤ (pi *ℤ output))
    (λ up. let most = mul-le-mul_left pi output high (grind (arith, ints)) below in omega (arith, linear))
    (λ down. let least = mul-le-mul_turned pi low output (grind (arith, ints)) above in omega (arith, linear))

pub renewable_nonneg : (instance : Instance) (printed : Printed) (table : Table) (w : ℕ) → IsWhole instance printed → w < renewable_count instance
    → pos 0 ≤ℤ renewable_uplift instance printed table w
renewable_nonneg instance printed table w h hw =
    let each = sum_below-le instance.periods (renewable_value instance table w) (λ t. neg_ℤ (pi_at table t *ℤ output_at printed w t))
    (λ t ht. let within = output_within instance printed h w t hw ht in
    best_is (pi_at table t) (int_max (renewable_minimum instance w t) (pos 0)) (renewable_maximum instance w t) (output_at printed w t) within.0 within.1) in
    omega (arith, linear, each)

-- ---- what is missing
shortage_nonneg : (k : ℤ) (price : ℕ) (multiplier most missing : ℤ) → IsShortage 1 price most missing
    → pos 0 ≤ℤ shortage_uplift k price multiplier most missing
shortage_nonneg k price multiplier most missing h =
    let loss = k *ℤ pos price -ℤ multiplier in
    let least = int_min (pos 0) loss in
    cond_both (nat_lt 0 price) (loss *ℤ missing -ℤ least *ℤ most) (pos 0) (λ v. pos 0 ≤ℤ v)
    (λ some.
    let within : missing ≤ℤ most = omega (arith, linear, h.within, one-mul most) in
    let turned = mul-le-mul_turned least missing most (int_min_left (pos 0) loss) within in
    let raised = mul-le-mul_right missing least loss h.nonneg (int_min_right (pos 0) loss) in
    omega (arith, linear, turned, raised))
    (λ none. le_refl (pos 0))

pub shed_nonneg : (instance : Instance) (printed : Printed) (table : Table) → IsWhole instance printed → pos 0 ≤ℤ shed_uplift instance printed table
shed_nonneg instance printed table h =
    sum_below_nonneg instance.periods (shortage_uplift_at instance printed table) (λ t ht.
    let shed = shortage_nonneg table.k instance.a (pi_at table t) (most_shed instance t) (shed_at printed t) (shed_within instance printed h t ht) in
    let short = shortage_nonneg table.k instance.b (mu_at table t) (most_short instance t) (short_at printed t) (short_within instance printed h t ht) in
    omega (arith, linear, shed, short))

-- ---- slacks
pub reserve_nonneg : (instance : Instance) (printed : Printed) (table : Table) → IsWhole instance printed → HasLawfulSigns table
    → pos 0 ≤ℤ reserve_slack instance printed table
reserve_nonneg instance printed table h signs =
    sum_below_nonneg instance.periods (reserve_slack_at instance printed table) (λ t ht.
    mul_nonneg (mu_at table t) _ (mu_at_nonneg table signs t) (omega (arith, linear, reserve_met instance printed h t ht)))

pub ramp_nonneg : (instance : Instance) (printed : Printed) (table : Table) → IsWhole instance printed → HasLawfulSigns table
    → pos 0 ≤ℤ ramp_slack instance printed table
ramp_nonneg instance printed table h signs =
    sum_below_nonneg (thermal_count instance) (λ g. sum_below instance.periods (ramp_slack_at instance printed table g)) (λ g hg.
    sum_below_nonneg instance.periods (ramp_slack_at instance printed table g) (λ t ht.
    let unit = thermal_unit instance g in
    let cell = cell_at printed g t in
    let before = output_before unit (row_of printed g) t in
    let signed = signed_at table signs g t in
    let up = mul_nonneg (up_at table g t) (unit.ru -ℤ cell.p -ℤ cell.r +ℤ before) signed.up (omega (arith, linear, rise instance printed h g t hg ht)) in
    let down = mul_nonneg (down_at table g t) (unit.rd -ℤ before +ℤ cell.p) signed.down (omega (arith, linear, fall instance printed h g t hg ht)) in
    omega (arith, linear, up, down)))
