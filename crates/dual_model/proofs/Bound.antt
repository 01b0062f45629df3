-- Weak duality: q times the value of a node is at most K times the cost by least starts, for each schedule that obeys over
-- q and agrees with the node.
use Rattle.std.proofs.Common.{ℕ, ◌<◌, ◌≤◌, length, refl, ap, arith, ℤ, pos, ◌+ℤ◌, ◌-ℤ◌, ◌*ℤ◌, ◌≤ℤ◌}
use Rattle.uc_model.specs.Prelude.{sum_below, bit, initial_p, Schedule, thermal_unit, thermal_count, renewable_count, demand_at, reserve_at, p_at, p_before, shortage_cost, RampUp, RampDown, RenewableRange, Demand, Reserve, Obeys, thermal_output}
use Rattle.uc_model.proofs.Common.{linear, scale-le-scale, int_le-true, int_eq-true, rule_at}
use Rattle.dual_model.specs.Prelude.{Instance, Table, pi_at, mu_at, up_at, down_at, HasSizeOf, HasLawfulSigns, Node, IsPatternAt, Thermal, IsPatternValue, IsUnitValue, constant_at, system_value, renewable_value, renewables_value, shortages_value, IsNodeValue, cell_cost_by_least_starts, unit_cost_by_least_starts, cost_by_least_starts}
use Rattle.dual_model.specs.UnitValue.{period_value}
use Rattle.dual_model.proofs.Lagrange.{unit_priced, bound_priced}
use Rattle.dual_model.proofs.Multipliers.{mu_at_nonneg, signed_at, up_at_past, down_at_past}
use Rattle.dual_model.proofs.PricedRules.{period_priced, shortages_priced, renewable_priced}

-- ---- a schedule that obeys, and a table of the instance's size with the signs of a bound
module _ (instance : Instance) (q : ℕ) (x : Schedule) (table : Table) (obeys : Obeys instance q x)
    (size : HasSizeOf instance table) (signs : HasLawfulSigns table) where
  abbrev unit_at : ℕ → Thermal
  unit_at g = thermal_unit instance g

  abbrev constant : ℕ → ℤ
  constant g = constant_at instance table g

  -- what unit g costs by least starts, and what its output and reserve are paid
  abbrev cost_of : ℕ → ℤ
  cost_of g = unit_cost_by_least_starts instance.periods q (unit_at g) (x.thermal g)

  abbrev paid : ℕ → ℤ
  paid g =
      sum_below instance.periods (λ t.
      pi_at table t *ℤ thermal_output instance q x g t +ℤ mu_at table t *ℤ (x.thermal g).reserve t)

  -- the value of a unit's pattern in the schedule, with the unit's constant, is at most what it costs, less what it is paid
  unit_bound : (g : ℕ) (w : ℤ) → g < thermal_count instance → IsPatternValue instance table g (x.thermal g).on w
      → (pos q *ℤ (w +ℤ constant g)) ≤ℤ (table.k *ℤ cost_of g -ℤ paid g)
  unit_bound g w hg value =
      let unit = unit_at g in
      let row = x.thermal g in
      let ends : length table.pi ≤ instance.periods = omega (arith, size.periods) in
      let bound =
      unit_priced instance.periods (pos q) unit.ru unit.rd (initial_p unit) table.k (up_at table g) (down_at table g)
      (pi_at table) (mu_at table) (p_at unit row) row.reserve (p_before q unit row)
      (λ t. pos q *ℤ unit.pmin *ℤ bit (row.on t)) (cell_cost_by_least_starts q unit row) (period_value table unit row.on value.term)
      (record {
        up_sign = λ t. (signed_at table signs g t).up;
        down_sign = λ t. (signed_at table signs g t).down;
        up_end = up_at_past table table.units (length table.pi) g instance.periods size.form.rows ends;
        down_end = down_at_past table table.units (length table.pi) g instance.periods size.form.rows ends;
        first = refl;
        next = λ t. refl;
        rise = λ t ht. int_le-true _ _ (rule_at instance q x obeys RampUp g t hg ht);
        fall = λ t ht. int_le-true _ _ (rule_at instance q x obeys RampDown g t hg ht);
        period = λ t ht.
            period_priced instance q x table g t value.term obeys hg ht (λ on. (value.terms t ht on).bound);
      }) in
      let same = ap (λ v. pos q *ℤ (v +ℤ constant g)) value.total in
      omega (arith, linear)

  -- the same of the value of unit g at the node, where its commitment is a pattern there and has a value
  pub unit_share : (node : Node) (g : ℕ) (v : ℤ) → g < thermal_count instance → IsUnitValue instance node table g v
      → IsPatternAt instance node g (x.thermal g).on → (w : ℤ) × IsPatternValue instance table g (x.thermal g).on w
      → (pos q *ℤ (v +ℤ constant g)) ≤ℤ (table.k *ℤ cost_of g -ℤ paid g)
  unit_share node g v hg is_value pattern own =
      let least = is_value.best.least (x.thermal g).on own.0 pattern own.1 in
      let shifted : (v +ℤ constant g) ≤ℤ (own.0 +ℤ constant g) = omega (arith, linear) in
      let below = scale-le-scale q _ _ shifted in
      let bound = unit_bound g own.0 hg own.1 in
      omega (arith, linear)

  -- the system's part, the parts of the thermal units, each of which is at most what its unit costs, less what it is paid, and
  -- those of the renewable units
  pub parts_bound : (part : ℕ → ℤ) → ((g : ℕ) → g < thermal_count instance → (pos q *ℤ part g) ≤ℤ (table.k *ℤ cost_of g -ℤ paid g))
      → (pos q *ℤ (system_value instance table +ℤ sum_below (thermal_count instance) part +ℤ renewables_value instance table))
      ≤ℤ (table.k *ℤ cost_by_least_starts instance q x)
  parts_bound part each =
      bound_priced instance.periods (thermal_count instance) (renewable_count instance) (pos q) table.k (pi_at table)
      (mu_at table) (demand_at instance) (reserve_at instance) x.shed x.short (shortages_value instance table)
      (shortage_cost instance x) (thermal_output instance q x) (λ g. (x.thermal g).reserve)
      x.output (renewable_value instance table) part cost_of
      (record {
        mu_sign = mu_at_nonneg table signs;
        demand_met = λ t ht. int_eq-true _ _ (rule_at instance q x obeys Demand 0 t (omega arith) ht);
        reserve_met = λ t ht. int_le-true _ _ (rule_at instance q x obeys Reserve 0 t (omega arith) ht);
        lacking = λ t ht. shortages_priced instance q x table t obeys ht;
        unit = each;
        renewable = λ w t hw ht.
            renewable_priced instance q x table w t obeys (rule_at instance q x obeys RenewableRange w t hw ht);
      })

  -- the value of the node
  pub bound_from : (node : Node) (v : ℤ) → IsNodeValue instance node table v
      → ((g : ℕ) → g < thermal_count instance → IsPatternAt instance node g (x.thermal g).on)
      → ((g : ℕ) → g < thermal_count instance → (w : ℤ) × IsPatternValue instance table g (x.thermal g).on w)
      → (pos q *ℤ v) ≤ℤ (table.k *ℤ cost_by_least_starts instance q x)
  bound_from node v is_value patterns values =
      let bound =
      parts_bound (λ g. is_value.unit_value g +ℤ constant g) (λ g hg.
      unit_share node g (is_value.unit_value g) hg (is_value.units g hg) (patterns g hg) (values g hg)) in
      let same = ap (λ n. pos q *ℤ n) is_value.total in
      omega (arith, linear)
