-- The unit of the examples that can't ramp down from 20 MW to 10, for an hour: it is on, at 15 MW or more, and L on its
-- points has one slope. At a unit of 40 MW in watts L is never summed up.
use Rattle.std.proofs.Common.{◌≡◌, ℕ, ◌*◌, ◌/◌, ◌<◌, ◌≤◌, true, cond, refl, sym, ap, subst, ◌∙◌, arith, List, ℤ, pos, ◌+ℤ◌, ◌-ℤ◌, ◌*ℤ◌, neg_ℤ, ◌≤ℤ◌, Some}
use Rattle.std.proofs.lemmas.Nat.{div_below}
use Rattle.uc_model.specs.Prelude.{Segment, hull_cost, mw}
use Rattle.uc_model.proofs.Common.{linear, zero-mul, one-mul, neg-mul, sum_below-same, sum_below-const}
use Rattle.dual_model.specs.Prelude.{pi_at, mu_at, Point, Instance, Table, UnitSchedule, floored_slope, slope_from, IsUnitSchedule, exact_cell_value, exact_period_value, unit_schedule_value, IsExactUnitValue, root, alone, sinking_unit, zero_prices, ray, scaled_dollars}
use Rattle.dual_model.specs.ExactValue.{floored_cost}

-- ---- L, where all its slopes are one
pub flat_cost : (points : List Point) (k m : ℤ) (width q p : ℕ) → 0 < q → ((x : ℕ) → x < width → slope_from points k x ≡ m)
    → p ≤ width * q → floored_cost points k q p ≡ pos q *ℤ (k *ℤ hull_cost points 1 (pos 0)) +ℤ pos p *ℤ m
unfolding floored_cost
flat_cost points k m width q p some slope h =
    ap (λ z. pos q *ℤ (k *ℤ hull_cost points 1 (pos 0)) +ℤ z)
    (sum_below-same p (λ y. slope_from points k (y / q)) (λ y. m)
    (λ y l. slope (y / q) (div_below y q width some (omega (arith, l, h))))
    ∙ sum_below-const p m)

-- ---- its points
abbrev points : List Point
points = sinking_unit.points

-- the segment of each step is the one from the first point to the second
abbrev whole : Segment
whole = record { left = 0; right = 1 }

slope_is : (k : ℤ) (x : ℕ) → x < 40000000 → slope_from points k x ≡ floored_slope points k (Some whole)
slope_is k x h = grind (arith, linear, h)

-- ---- its schedules in an hour
abbrev system : ℕ → Instance
system demand = alone sinking_unit demand 0

-- it is on, at 5 MW above the minimum or more
record IsKept (q : ℕ) (x : UnitSchedule) : Type 0 where
  on : x.on 0 ≡ true
  low : (q * 5000000) ≤ x.p 0
  high : x.p 0 ≤ (40000000 * q)

kept : (demand q : ℕ) (x : UnitSchedule) → IsUnitSchedule (system demand) root 0 q x → IsKept q x
kept demand q x is = grind (arith, linear, is)

-- what a schedule of output p and reserve r adds
abbrev value_at : Table → ℕ → ℕ → ℕ → ℤ
value_at table q p r =
    pos q *ℤ (table.k *ℤ pos 100000000) +ℤ pos p *ℤ floored_slope points table.k (Some whole)
    -ℤ pi_at table 0 *ℤ (pos p +ℤ pos q *ℤ mw 10) -ℤ mu_at table 0 *ℤ pos r

value_is : (demand q : ℕ) (table : Table) (x : UnitSchedule) → IsUnitSchedule (system demand) root 0 q x
    → unit_schedule_value (system demand) table 0 q x ≡ value_at table q (x.p 0) (x.r 0)
value_is demand q table x is =
    let held = kept demand q x is in
    let cell = exact_cell_value table q sinking_unit x 0 in
    let on : exact_period_value table q sinking_unit x 0 ≡ cell +ℤ pos 0 = ap (λ b. cond b cell (pos 0) +ℤ pos 0) held.on in
    let cost = flat_cost points table.k (floored_slope points table.k (Some whole)) 40000000 q (x.p 0) is.denominator
    (slope_is table.k) held.high in
    let whole_cell : cell ≡ value_at table q (x.p 0) (x.r 0) =
    ap (λ z. z -ℤ pi_at table 0 *ℤ (pos (x.p 0) +ℤ pos q *ℤ mw 10) -ℤ mu_at table 0 *ℤ pos (x.r 0)) cost in
    omega (arith, linear, on, whole_cell)

-- the schedule at 15 MW
abbrev lowest : UnitSchedule
lowest = record { on = λ t. true; p = λ t. 5000000; r = λ t. 0 }

lowest-is : (demand : ℕ) → IsUnitSchedule (system demand) root 0 1 lowest
lowest-is demand = grind (arith, linear)

-- a number that bounds them, and that the lowest one reaches, is the unit's exact value
pub exact_unit : (demand : ℕ) (table : Table) (e : ℤ)
    → ((q p r : ℕ) → (q * 5000000) ≤ p → (pos q *ℤ e) ≤ℤ value_at table q p r) → value_at table 1 5000000 0 ≡ e
    → IsExactUnitValue (system demand) root table 0 e
exact_unit demand table e bound reached = record {
  q = 1;
  x = lowest;
  is_schedule = lowest-is demand;
  bound = λ q x is.
      subst (λ z. (pos q *ℤ e) ≤ℤ z) (sym (value_is demand q table x is))
      (bound q (x.p 0) (x.r 0) (kept demand q x is).low);
  greatest = λ m below.
      let least = below 1 lowest (lowest-is demand) in
      let same = value_is demand 1 table lowest (lowest-is demand) in
      omega (arith, linear, least, same, reached, one-mul m);
}

-- at a price of 0
pub kept_value : IsExactUnitValue (system 30) root (zero_prices (system 30)) 0 (scaled_dollars 150)
kept_value =
    exact_unit 30 (zero_prices (system 30)) (scaled_dollars 150) (λ q p r low.
    let output = zero-mul (pos p +ℤ pos q *ℤ mw 10) in
    let reserve = zero-mul (pos r) in
    omega (arith, linear, low, output, reserve))
    refl

-- at a ray that asks for less output
pub ray_value : IsExactUnitValue (system 5) root (ray (neg_ℤ (pos 1)) (pos 0) (system 5)) 0 (mw 15)
ray_value =
    exact_unit 5 (ray (neg_ℤ (pos 1)) (pos 0) (system 5)) (mw 15) (λ q p r low.
    let output = neg-mul (pos 1) (pos p +ℤ pos q *ℤ mw 10) in
    let one = one-mul (pos p +ℤ pos q *ℤ mw 10) in
    let reserve = zero-mul (pos r) in
    omega (arith, linear, low, output, one, reserve))
    refl
