-- Rays of demand and reserve that name no ramp, where both may be missing at a price: their values are at most 0, since a
-- unit that gives nothing above its minimum costs nothing at the scale 0, and what is needed may be missing.
use Rattle.std.proofs.Common.{◌≡◌, ◌≢◌, ℕ, zero, suc, ◌/◌, ◌<◌, Bool, true, false, refl, sym, ap, subst, ◌∙◌, arith, length, List, ℤ, pos, neg_ℤ, ◌+ℤ◌, ◌-ℤ◌, ◌*ℤ◌, ◌≤ℤ◌, IsTrue, Option, Some, None}
use Rattle.std.specs.Int.{int_max}
use Rattle.std.proofs.lemmas.Int.{ints, clamps}
use Rattle.uc_model.specs.Prelude.{sum_below, Segment, segment_at, hull_cost, initial_p, thermal_unit, thermal_count, renewable_count, demand_at, reserve_at, IsLawfulInstance}
use Rattle.uc_model.proofs.Common.{linear, mul-zero, zero-mul, mul-one, one-mul, mul_nonneg, le_from_mul, pos_nonneg, sum_below-le, sum_below-zero, sum_below-single}
use Rattle.dual_model.specs.Prelude.{Instance, Table, pi_at, mu_at, up_at, down_at, Point, output_of, weighted_total, weighted_output, weighted_cost, IsTerm, Node, Thermal, IsUnitValue, shortage_value, shortages_value, unit_part, renewable_value, renewable_part, UnitSchedule, floored_slope, slope_from, exact_period_value, IsExactUnitValue, exact_part, parts_total, IsValueOf, IsShortageRay, HasRayNumbers, ShortageRaysExcludeNothing}
use Rattle.dual_model.specs.UnitValue.{period_value}
use Rattle.dual_model.specs.ExactValue.{floored_cost}

-- a sum of numbers of at most 0
sum_nonpos : (n : ℕ) (f : ℕ → ℤ) → ((k : ℕ) → k < n → f k ≤ℤ pos 0) → sum_below n f ≤ℤ pos 0
sum_nonpos n f h = subst (λ z. sum_below n f ≤ℤ z) (sum_below-zero n (λ k. pos 0) (λ k l. refl)) (sum_below-le n f (λ k. pos 0) h)

-- ---- prices that no ramp has, at the scale 0
record AsksForNeeds (instance : Instance) (table : Table) : Type 0 where
  scale : table.k ≡ pos 0
  demand : (t : ℕ) → t < instance.periods → pos 0 ≤ℤ pi_at table t
  reserve : (t : ℕ) → t < instance.periods → pos 0 ≤ℤ mu_at table t
  up : (g t : ℕ) → g < thermal_count instance → up_at table g t ≡ pos 0
  down : (g t : ℕ) → g < thermal_count instance → down_at table g t ≡ pos 0

-- a need at a multiplier, with what may be missing of it
need_nonpos : (price : ℕ) (k m need : ℤ) → 0 < price → k ≡ pos 0 → pos 0 ≤ℤ m
    → (m *ℤ need +ℤ shortage_value k price m (int_max need (pos 0))) ≤ℤ pos 0
need_nonpos price k m need some free sign = grind (arith, ints, some, free, sign)

-- a period of a system in which both may be missing
period_nonpos : (instance : Instance) (table : Table) (t : ℕ) → AsksForNeeds instance table → 0 < instance.a → 0 < instance.b
    → t < instance.periods
    → (pi_at table t *ℤ demand_at instance t +ℤ mu_at table t *ℤ reserve_at instance t +ℤ shortages_value instance table t) ≤ℤ pos 0
period_nonpos instance table t asks shed short ht =
    let demand = need_nonpos instance.a table.k (pi_at table t) (demand_at instance t) shed asks.scale (asks.demand t ht) in
    let reserve = need_nonpos instance.b table.k (mu_at table t) (reserve_at instance t) short asks.scale (asks.reserve t ht) in
    omega (arith, linear)

-- ---- a unit
-- the weight of a schedule at the first point alone
first_point : ℕ → ℕ
first_point zero = 1
first_point (suc l) = 0

first_sum : (points : List Point) (f : ℕ → ℤ) → 0 < length points → sum_below (length points) (λ l. f l *ℤ pos (first_point l)) ≡ f 0
unfolding first_point
first_sum points f some =
    sum_below-single (length points) (λ l. f l *ℤ pos (first_point l)) 0 some (λ l h other. nothing l other) ∙ mul-one (f 0)
  where
    nothing : (l : ℕ) → l ≢ 0 → f l *ℤ pos (first_point l) ≡ pos 0
    nothing zero other = absurd (other refl)
    nothing (suc l) other = mul-zero (f (suc l))

first_total : (points : List Point) → 0 < length points → weighted_total points first_point ≡ pos 1
unfolding first_point
first_total points some =
    sum_below-single (length points) (λ l. pos (first_point l)) 0 some (λ l h other. nothing l other)
  where
    nothing : (l : ℕ) → l ≢ 0 → pos (first_point l) ≡ pos 0
    nothing zero other = absurd (other refl)
    nothing (suc l) other = refl

first_output : (points : List Point) → 0 < length points → weighted_output points first_point ≡ pos 0
first_output points some = first_sum points (output_of points) some ∙ (omega (arith, linear))

-- a term at the scale 0 is at most 0: the first point has no output above the minimum
term_nonpos : (points : List Point) (k a b room m : ℤ) → 0 < length points → k ≡ pos 0 → IsTerm points k a b room m → m ≤ℤ pos 0
term_nonpos points k a b room m some free term =
    let output = first_output points some in
    let within : (weighted_output points first_point +ℤ pos 0) ≤ℤ (pos 1 *ℤ room) =
    omega (arith, linear, output, term.reachable, one-mul room) in
    let below = term.bound.below 1 first_point (pos 0) (first_total points some) (omega (arith, linear)) within in
    let cost : k *ℤ weighted_cost points first_point ≡ pos 0 =
    ap (λ z. z *ℤ weighted_cost points first_point) free ∙ zero-mul (weighted_cost points first_point) in
    let priced : a *ℤ weighted_output points first_point ≡ pos 0 = ap (λ z. a *ℤ z) output ∙ mul-zero a in
    omega (arith, linear, below, cost, priced, mul-zero b, one-mul m)

-- a start costs nothing at the scale 0
start_free : (k s : ℤ) → k ≡ pos 0 → k *ℤ s ≡ pos 0
start_free k s free = ap (λ z. z *ℤ s) free ∙ zero-mul s

period_value_nonpos : (table : Table) (unit : Thermal) (on : ℕ → Bool) (term : ℕ → ℤ) (t : ℕ) → table.k ≡ pos 0
    → pos 0 ≤ℤ pi_at table t → pos 0 ≤ℤ unit.pmin → (IsTrue (on t) → term t ≤ℤ pos 0) → period_value table unit on term t ≤ℤ pos 0
period_value_nonpos table unit on term t free sign minimum below = grind (arith, ints, free, sign, minimum, below)

unit_nonpos : (instance : Instance) (node : Node) (table : Table) (g : ℕ) (v : ℤ) → IsLawfulInstance instance
    → AsksForNeeds instance table → g < thermal_count instance → IsUnitValue instance node table g v
    → unit_part instance table g v ≤ℤ pos 0
unit_nonpos instance node table g v lawful asks hg value =
    let unit = thermal_unit instance g in
    let own = value.best.value in
    let thermal = lawful.thermal g hg in
    let some : 0 < length unit.points = omega (arith, thermal.points.0) in
    let periods = sum_nonpos instance.periods (period_value table unit value.on own.term) (λ t ht.
    period_value_nonpos table unit value.on own.term t asks.scale (asks.demand t ht) thermal.minimum.low
    (λ on. term_nonpos unit.points table.k _ _ _ _ some asks.scale (own.terms t ht on))) in
    let ramps : sum_below instance.periods (λ t. neg_ℤ (up_at table g t *ℤ unit.ru) -ℤ down_at table g t *ℤ unit.rd) ≡ pos 0 =
    sum_below-zero instance.periods (λ t. neg_ℤ (up_at table g t *ℤ unit.ru) -ℤ down_at table g t *ℤ unit.rd) (λ t ht.
    let rise = ap (λ z. z *ℤ unit.ru) (asks.up g t hg) ∙ zero-mul unit.ru in
    let fall = ap (λ z. z *ℤ unit.rd) (asks.down g t hg) ∙ zero-mul unit.rd in
    omega (arith, linear)) in
    let no_multiplier : down_at table g 0 -ℤ up_at table g 0 ≡ pos 0 =
    (let up = asks.up g 0 hg in let down = asks.down g 0 hg in omega (arith, linear)) in
    let start = ap (λ z. z *ℤ initial_p unit) no_multiplier ∙ zero-mul (initial_p unit) in
    let total = own.total in
    omega (arith, linear)

-- ---- a unit's own schedule
slope_free : (points : List Point) (segment : Option Segment) → floored_slope points (pos 0) segment ≡ pos 0
slope_free points None = refl
slope_free points (Some s) = grind (arith, ints, s)

floored_free : (points : List Point) (k : ℤ) (q p : ℕ) → k ≡ pos 0 → floored_cost points k q p ≡ pos 0
unfolding floored_cost
floored_free points k q p free = subst (λ z. floored_cost points z q p ≡ pos 0) (sym free)
    (let first = ap (λ z. pos q *ℤ z) (zero-mul (hull_cost points 1 (pos 0))) ∙ mul-zero (pos q) in
    let steps = sum_below-zero p (λ y. slope_from points (pos 0) (y / q)) (λ y l. slope_free points (segment_at points 1 (pos (suc (y / q))))) in
    omega (arith, linear, first, steps))

exact_period_nonpos : (table : Table) (q : ℕ) (unit : Thermal) (x : UnitSchedule) (t : ℕ) → table.k ≡ pos 0 → pos 0 ≤ℤ pi_at table t
    → pos 0 ≤ℤ mu_at table t → pos 0 ≤ℤ unit.pmin → exact_period_value table q unit x t ≤ℤ pos 0
exact_period_nonpos table q unit x t free wants holds minimum =
    grind (arith, ints, mul_nonneg, pos_nonneg, floored_free, start_free, mul-zero, free, wants, holds, minimum)

-- it has a schedule, which is worth no more than 0
exact_unit_nonpos : (instance : Instance) (node : Node) (table : Table) (g : ℕ) (e : ℤ) → IsLawfulInstance instance
    → AsksForNeeds instance table → g < thermal_count instance → IsExactUnitValue instance node table g e → e ≤ℤ pos 0
exact_unit_nonpos instance node table g e lawful asks hg value =
    let unit = thermal_unit instance g in
    let thermal = lawful.thermal g hg in
    let periods = sum_nonpos instance.periods (exact_period_value table value.q unit value.x) (λ t ht.
    exact_period_nonpos table value.q unit value.x t asks.scale (asks.demand t ht) (asks.reserve t ht) thermal.minimum.low) in
    let bound = value.bound value.q value.x value.is_schedule in
    let some = value.is_schedule.denominator in
    le_from_mul (pos value.q) e (pos 0) (omega (arith, linear, some))
    (let nothing = mul-zero (pos value.q) in omega (arith, linear, periods, bound, nothing))

max_nonpos : (a b : ℤ) → a ≤ℤ pos 0 → b ≤ℤ pos 0 → int_max a b ≤ℤ pos 0
max_nonpos a b h k = omega (arith, ints, clamps)

-- ---- a renewable unit
renewable_nonpos : (instance : Instance) (table : Table) (w t : ℕ) → IsLawfulInstance instance → AsksForNeeds instance table
    → w < renewable_count instance → t < instance.periods → renewable_value instance table w t ≤ℤ pos 0
renewable_nonpos instance table w t lawful asks hw ht = grind (arith, ints, lawful, asks, hw, ht)

-- ---- the whole, by what the thermal units add
parts_nonpos : (instance : Instance) (table : Table) (v : ℤ) (part : ℕ → ℤ) → IsLawfulInstance instance → AsksForNeeds instance table
    → 0 < instance.a → 0 < instance.b → v ≡ parts_total instance table part
    → ((g : ℕ) → g < thermal_count instance → part g ≤ℤ pos 0) → v ≤ℤ pos 0
parts_nonpos instance table v part lawful asks shed short total each =
    let system = sum_nonpos instance.periods _ (λ t ht. period_nonpos instance table t asks shed short ht) in
    let units = sum_nonpos (thermal_count instance) part each in
    let renewables = sum_nonpos (renewable_count instance) (renewable_part instance table)
    (λ w hw. sum_nonpos instance.periods (renewable_value instance table w)
    (λ t ht. renewable_nonpos instance table w t lawful asks hw ht)) in
    omega (arith, linear)

asking_nonpos : (exact : Bool) (instance : Instance) (node : Node) (table : Table) (v : ℤ) → IsLawfulInstance instance
    → AsksForNeeds instance table → 0 < instance.a → 0 < instance.b → IsValueOf exact instance node table v → v ≤ℤ pos 0
asking_nonpos false instance node table v lawful asks shed short value =
    parts_nonpos instance table v (λ g. unit_part instance table g (value.unit_value g)) lawful asks shed short value.total
    (λ g hg. unit_nonpos instance node table g (value.unit_value g) lawful asks hg (value.units g hg))
asking_nonpos true instance node table v lawful asks shed short value =
    parts_nonpos instance table v (λ g. exact_part instance table g (value.unit_value g) (value.exact_value g)) lawful asks shed short
    value.total
    (λ g hg. max_nonpos (value.exact_value g) (unit_part instance table g (value.unit_value g))
    (exact_unit_nonpos instance node table g (value.exact_value g) lawful asks hg (value.exact_units g hg))
    (unit_nonpos instance node table g (value.unit_value g) lawful asks hg (value.units g hg)))

-- the rays of a period that aren't its second
record IsNeedRay (demand reserve : ℤ) (up down : Thermal → Bool) : Type 0 where
  wants : pos 0 ≤ℤ demand
  holds : pos 0 ≤ℤ reserve
  no_up : (unit : Thermal) → up unit ≡ false
  no_down : (unit : Thermal) → down unit ≡ false

asks_of : (instance : Instance) (n : ℕ) (table : Table) → IsShortageRay instance.periods n → HasRayNumbers instance n table
    → AsksForNeeds instance table
asks_of instance n table is_ray numbers = grind (arith, ints, is_ray, numbers)

pub shortage_rays_exclude_nothing : (exact : Bool) → ShortageRaysExcludeNothing exact
shortage_rays_exclude_nothing exact instance node n table v lawful shed short is_ray numbers value =
    asking_nonpos exact instance node table v lawful (asks_of instance n table is_ray numbers) shed short value
