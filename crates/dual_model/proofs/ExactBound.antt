-- Weak duality of exact values: a schedule that obeys gives each unit a schedule of its own, whose value is at most K
-- times what the unit costs by least starts, less what its output and reserve are paid.
use Rattle.std.proofs.Common.{◌≡◌, ℕ, zero, suc, ◌-◌, ◌<◌, Bool, true, false, cond, refl, sym, ap, subst, ◌∙◌, arith, ⊎_elim, ℤ, pos, ◌+ℤ◌, ◌-ℤ◌, ◌*ℤ◌, ◌≤ℤ◌, IsTrue, unsigned_abs}
use Rattle.std.specs.Int.{int_max}
use Rattle.std.proofs.lemmas.Int.{ints}
use Rattle.std.proofs.lemmas.Bool.{cases_Bool, cond-true, cond-false}
use Rattle.uc_model.specs.Prelude.{sum_below, bit, starts, start_cap, stop_cap, last_stop, sigma, Row, Schedule, thermal_unit, thermal_count, point_count, p_at, p_before, weight_sum, output_of, production_cost, Production, StartCap, StopCap, RampUp, RampDown, Obeys, stop_cap_at, thermal_output, IsLawfulThermal}
use Rattle.uc_model.proofs.Common.{linear, mul-le-mul_right, mul_nonneg, mul_comm, mul-one, mul-zero, mul-add, pos_nonneg, sum_below-le, sum_below-sub, sum_below-mul_left, int_le-true, abs_is, rule_at, Produces, production_parts, point_p_nonneg, p_at_nonneg, Rises, outputs_rise}
use Rattle.dual_model.specs.Prelude.{pi_at, mu_at, IsPatternAt, unit_part, Thermal, Instance, Node, Table, UnitSchedule, greatest_output, output_before, IsUnitScheduleAt, IsUnitSchedule, exact_cell_value, exact_period_value, unit_schedule_value, exact_part, IsExactUnitValue, least_start_cost, cell_cost_by_least_starts, unit_cost_by_least_starts, cost_by_least_starts, WeakDualityOfLeastStarts, SchedulesAreUnitSchedules}
use Rattle.dual_model.specs.ExactValue.{floored_cost}
use Rattle.dual_model.proofs.Agreement.{pattern-obeying}
use Rattle.dual_model.proofs.LeastStarts.{start_scaled}
use Rattle.dual_model.proofs.PricedRules.{made_off}
use Rattle.dual_model.proofs.Bound.{unit_share, parts_bound}
use Rattle.dual_model.proofs.UnitValues.{allowed_value}
use Rattle.dual_model.proofs.FlooredHull.{floored_cost-le}

-- ---- the unit's schedule
abbrev own : Thermal → Row → UnitSchedule
own unit row = record { on = row.on; p = λ t. unsigned_abs (p_at unit row t); r = λ t. unsigned_abs (row.reserve t) }

rises : (unit : Thermal) → IsLawfulThermal unit → Rises unit.points
rises unit lawful = record { some = lawful.points.0; rising = lawful.rising }

-- weights of sum q give at most q times the greatest output
most_output : (unit : Thermal) (row : Row) (t : ℕ) (q : ℤ) → IsLawfulThermal unit → weight_sum unit row t ≡ q
    → p_at unit row t ≤ℤ (q *ℤ greatest_output unit.points)
most_output unit row t q lawful total =
    let most = greatest_output unit.points in
    let each = sum_below-le (point_count unit) (λ l. output_of unit.points l *ℤ pos (row.weight t l))
    (λ l. most *ℤ pos (row.weight t l)) (λ l h.
    mul-le-mul_right (pos (row.weight t l)) _ _ (pos_nonneg (row.weight t l))
    (outputs_rise unit.points (rises unit lawful) l (point_count unit - 1) (omega (arith, h)) (omega (arith, h)))) in
    let times = sum_below-mul_left (point_count unit) most (λ l. pos (row.weight t l)) ∙ ap (λ z. most *ℤ z) total in
    omega (arith, linear, each, times, mul_comm most q)

width_nonneg : (unit : Thermal) → IsLawfulThermal unit → pos 0 ≤ℤ greatest_output unit.points
width_nonneg unit lawful = grind (arith, ints, point_p_nonneg, lawful)

before_is : (q t : ℕ) (unit : Thermal) (row : Row) → IsLawfulThermal unit → output_before q unit (own unit row) t ≡ p_before q unit row t
before_is q zero unit row lawful = refl
before_is q (suc t) unit row lawful = abs_is (p_at unit row t) (p_at_nonneg unit lawful row t)

-- M10 before the last period
stopped : (periods q : ℕ) (unit : Thermal) (row : Row) (t : ℕ) → IsTrue (stop_cap_at periods q unit row t) → suc t < periods
    → (p_at unit row t +ℤ row.reserve t) ≤ℤ (pos q *ℤ stop_cap unit row.on t)
stopped periods q unit row t holds before = grind (arith, ints, holds, before)

-- ---- a period, over plain numbers: what a cell adds, K times its start, and what it is paid
on_period : (q k pi mu floored made p r pmin start least u cell : ℤ) → cell ≡ floored -ℤ pi *ℤ (p +ℤ q *ℤ pmin) -ℤ mu *ℤ r
    → u ≡ pos 1 → floored ≤ℤ (k *ℤ made) → start ≡ k *ℤ (q *ℤ least)
    → (cell +ℤ start) ≤ℤ (k *ℤ (made +ℤ q *ℤ least) -ℤ (pi *ℤ (p +ℤ q *ℤ pmin *ℤ u) +ℤ mu *ℤ r))
on_period q k pi mu floored made p r pmin start least u cell is is_on below begun = grind (arith, ints, mul-add, mul-one, is, is_on, below, begun)

off_period : (q k pi mu made p r pmin start least u : ℤ) → u ≡ pos 0 → made ≡ pos 0 → p ≡ pos 0 → r ≡ pos 0
    → start ≡ k *ℤ (q *ℤ least)
    → (pos 0 +ℤ start) ≤ℤ (k *ℤ (made +ℤ q *ℤ least) -ℤ (pi *ℤ (p +ℤ q *ℤ pmin *ℤ u) +ℤ mu *ℤ r))
off_period q k pi mu made p r pmin start least u is_off none p_none r_none begun = grind (arith, ints, mul-zero, mul-add, is_off, none, p_none, r_none, begun)

scaled_cond : (q : ℤ) (b : Bool) (z : ℤ) → cond b (q *ℤ z) (pos 0) ≡ q *ℤ cond b z (pos 0)
scaled_cond q true z = refl
scaled_cond q false z = sym (mul-zero q)

module _ (instance : Instance) (q : ℕ) (x : Schedule) (g : ℕ) (obeys : Obeys instance q x)
    (hg : g < thermal_count instance)
    (lawful : IsLawfulThermal (thermal_unit instance g)) where
  abbrev unit : Thermal
  unit = thermal_unit instance g

  abbrev row : Row
  row = x.thermal g

  made : (t : ℕ) → t < instance.periods → Produces q unit row t
  made t ht = production_parts q unit row t (rule_at instance q x obeys Production g t hg ht)

  p_is : (t : ℕ) → pos (unsigned_abs (p_at unit row t)) ≡ p_at unit row t
  p_is t = abs_is (p_at unit row t) (p_at_nonneg unit lawful row t)

  r_is : (t : ℕ) → t < instance.periods → pos (unsigned_abs (row.reserve t)) ≡ row.reserve t
  r_is t ht = abs_is (row.reserve t) (made t ht).reserve

  width_at : (t : ℕ) → t < instance.periods → p_at unit row t ≤ℤ (pos q *ℤ greatest_output unit.points)
  width_at t ht = ⊎_elim
      (λ (on : IsTrue (row.on t)).
      most_output unit row t (pos q) lawful ((made t ht).total ∙ ap (λ b. pos q *ℤ bit b) on ∙ mul-one (pos q)))
      (λ (off : row.on t ≡ false).
      let idle = ((made t ht).idle off).0 in
      let wide = mul_nonneg (pos q) (greatest_output unit.points) (pos_nonneg q) (width_nonneg unit lawful) in
      omega (arith, linear, idle, wide))
      (cases_Bool (row.on t))

  own-at : (t : ℕ) → t < instance.periods → IsUnitScheduleAt instance.periods q unit (own unit row) t
  own-at t ht =
      let p = p_is t in
      let r = r_is t ht in
      let before = before_is q t unit row lawful in
      record {
        off = λ off. let idle = (made t ht).idle off in (ap unsigned_abs idle.0, ap unsigned_abs idle.1);
        width = let wide = width_at t ht in omega (arith, linear, p, wide);
        start_cap = let below = int_le-true (p_at unit row t +ℤ row.reserve t) (pos q *ℤ start_cap unit row.on t)
            (rule_at instance q x obeys StartCap g t hg ht) in omega (arith, linear, p, r, below);
        stop_cap = λ later.
            let below = stopped instance.periods q unit row t (rule_at instance q x obeys StopCap g t hg ht) later in
            omega (arith, linear, p, r, below);
        ramp_up = let below = int_le-true (p_at unit row t +ℤ row.reserve t -ℤ p_before q unit row t) (pos q *ℤ unit.ru)
            (rule_at instance q x obeys RampUp g t hg ht) in omega (arith, linear, p, r, before, below);
        ramp_down = let below = int_le-true (p_before q unit row t -ℤ p_at unit row t) (pos q *ℤ unit.rd)
            (rule_at instance q x obeys RampDown g t hg ht) in omega (arith, linear, p, before, below);
      }

  own-is : (node : Node) → IsPatternAt instance node g row.on → IsUnitSchedule instance node g q (own unit row)
  own-is node pattern = record { denominator = obeys.denominator; pattern = pattern; each = own-at }

  -- what the unit is paid in a period
  abbrev paid_at : Table → ℕ → ℤ
  paid_at table t = pi_at table t *ℤ thermal_output instance q x g t +ℤ mu_at table t *ℤ row.reserve t

  period_bound : (table : Table) (t : ℕ) → t < instance.periods → pos 0 ≤ℤ table.k
      → exact_period_value table q unit (own unit row) t ≤ℤ (table.k *ℤ cell_cost_by_least_starts q unit row t -ℤ paid_at table t)
  period_bound table t ht sign =
      let p = unsigned_abs (p_at unit row t) in
      let r = unsigned_abs (row.reserve t) in
      let start = table.k *ℤ sigma unit (last_stop unit row.on t) t in
      let begun : cond (starts unit row.on t) (pos q *ℤ start) (pos 0) ≡ table.k *ℤ (pos q *ℤ least_start_cost unit row.on t) =
      scaled_cond (pos q) (starts unit row.on t) start
      ∙ start_scaled table.k (pos q) (starts unit row.on t) (sigma unit (last_stop unit row.on t) t) in
      ⊎_elim
      (λ (on : IsTrue (row.on t)).
      let whole : weight_sum unit row t ≡ pos q = (made t ht).total ∙ ap (λ b. pos q *ℤ bit b) on ∙ mul-one (pos q) in
      let cost_below : floored_cost unit.points table.k q p ≤ℤ (table.k *ℤ production_cost unit row t) =
      floored_cost-le unit.points table.k q p (row.weight t) (rises unit lawful) sign whole (sym (p_is t))
      (let wide = width_at t ht in let is = p_is t in omega (arith, linear, is, wide)) in
      let cell : cond (row.on t) (exact_cell_value table q unit (own unit row) t) (pos 0)
      ≡ floored_cost unit.points table.k q p -ℤ pi_at table t *ℤ (p_at unit row t +ℤ pos q *ℤ unit.pmin)
      -ℤ mu_at table t *ℤ row.reserve t =
      cond-true (row.on t) _ _ on
      ∙ (λ i. floored_cost unit.points table.k q p -ℤ pi_at table t *ℤ (p_is t i +ℤ pos q *ℤ unit.pmin)
      -ℤ mu_at table t *ℤ r_is t ht i) in
      on_period (pos q) table.k (pi_at table t) (mu_at table t) (floored_cost unit.points table.k q p)
      (production_cost unit row t)
      (p_at unit row t) (row.reserve t) unit.pmin (cond (starts unit row.on t) (pos q *ℤ start) (pos 0))
      (least_start_cost unit row.on t) (bit (row.on t))
      (cond (row.on t) (exact_cell_value table q unit (own unit row) t) (pos 0))
      cell (ap bit on) cost_below begun)
      (λ (off : row.on t ≡ false).
      let is_off : bit (row.on t) ≡ pos 0 = ap bit off in
      let none : weight_sum unit row t ≡ pos 0 = (made t ht).total ∙ ap (λ u. pos q *ℤ u) is_off ∙ mul-zero (pos q) in
      let idle = (made t ht).idle off in
      subst (λ z. (z +ℤ cond (starts unit row.on t) (pos q *ℤ start) (pos 0))
      ≤ℤ (table.k *ℤ cell_cost_by_least_starts q unit row t -ℤ paid_at table t))
      (sym (cond-false (row.on t) (exact_cell_value table q unit (own unit row) t) (pos 0) off))
      (off_period (pos q) table.k (pi_at table t) (mu_at table t) (production_cost unit row t) (p_at unit row t)
      (row.reserve t) unit.pmin
      (cond (starts unit row.on t) (pos q *ℤ start) (pos 0)) (least_start_cost unit row.on t)
      (bit (row.on t)) is_off
      (made_off q unit row t none) idle.0 idle.1 begun))
      (cases_Bool (row.on t))

  -- the value of the unit's schedule is at most K times what the unit costs by least starts, less what it is paid
  own_bound : (table : Table) → pos 0 ≤ℤ table.k → unit_schedule_value instance table g q (own unit row)
      ≤ℤ (table.k *ℤ unit_cost_by_least_starts instance.periods q unit row -ℤ sum_below instance.periods (paid_at table))
  own_bound table sign =
      let each = sum_below-le instance.periods (exact_period_value table q unit (own unit row))
      (λ t. table.k *ℤ cell_cost_by_least_starts q unit row t -ℤ paid_at table t) (λ t ht. period_bound table t ht sign) in
      let parts = sum_below-sub instance.periods (λ t. table.k *ℤ cell_cost_by_least_starts q unit row t) (paid_at table) in
      let times = sum_below-mul_left instance.periods table.k (cell_cost_by_least_starts q unit row) in
      omega (arith, linear, each, parts, times)

  -- so is q times the unit's exact value
  exact_unit_bound : (node : Node) (table : Table) (e : ℤ) → pos 0 ≤ℤ table.k → IsPatternAt instance node g row.on
      → IsExactUnitValue instance node table g e
      → (pos q *ℤ e) ≤ℤ (table.k *ℤ unit_cost_by_least_starts instance.periods q unit row -ℤ sum_below instance.periods (paid_at table))
  exact_unit_bound node table e sign pattern is =
      let below = is.bound q (own unit row) (own-is node pattern) in
      let bound = own_bound table sign in
      omega (arith, linear, below, bound)

-- ---- the node
greater_bound : (q a b c : ℤ) → (q *ℤ a) ≤ℤ c → (q *ℤ b) ≤ℤ c → (q *ℤ int_max a b) ≤ℤ c
greater_bound q a b c h k = grind (arith, ints, h, k)

-- the greater of both bounds takes the unit's part
pub exact_least_starts : WeakDualityOfLeastStarts true
exact_least_starts instance node table v q x lawful bounds is_value schedule =
    let bound = parts_bound instance q x table schedule.obeys bounds.size bounds.signs
    (λ g. exact_part instance table g (is_value.unit_value g) (is_value.exact_value g)) each in
    subst (λ z. (pos q *ℤ z) ≤ℤ (table.k *ℤ cost_by_least_starts instance q x)) (sym is_value.total) bound
  where
    each : (g : ℕ) → g < thermal_count instance → (pos q *ℤ exact_part instance table g (is_value.unit_value g) (is_value.exact_value g))
        ≤ℤ (table.k *ℤ unit_cost_by_least_starts instance.periods q (thermal_unit instance g) (x.thermal g)
        -ℤ sum_below instance.periods (λ t. pi_at table t *ℤ thermal_output instance q x g t
        +ℤ mu_at table t *ℤ (x.thermal g).reserve t))
    each g hg =
        let own_lawful = lawful.thermal g hg in
        let pattern = pattern-obeying instance node q x g lawful.periods.0 schedule.obeys schedule.agrees
        hg own_lawful in
        greater_bound (pos q) (is_value.exact_value g) (unit_part instance table g (is_value.unit_value g)) _
        (exact_unit_bound instance q x g schedule.obeys hg own_lawful node table (is_value.exact_value g)
        bounds.size.form.scale pattern
        (is_value.exact_units g hg))
        (unit_share instance q x table schedule.obeys bounds.size bounds.signs node g (is_value.unit_value g) hg
        (is_value.units g hg)
        pattern (allowed_value instance table g (x.thermal g).on own_lawful.points.0 pattern.allowed))

-- each unit has a schedule of its own
pub schedules_are_unit_schedules : SchedulesAreUnitSchedules
schedules_are_unit_schedules instance node g q x lawful schedule hg = (
  own (thermal_unit instance g) (x.thermal g),
  own-is instance q x g schedule.obeys hg (lawful.thermal g hg) node
      (pattern-obeying instance node q x g lawful.periods.0 schedule.obeys schedule.agrees hg (lawful.thermal g hg)),
)
