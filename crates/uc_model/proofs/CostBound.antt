-- The cost of a schedule that obeys is at most q * COST_MAX in size.
-- Cite from a crate above by `use Rattle.uc_model.proofs.CostBound.{cost_fits}`.
use Rattle.std.proofs.Common.{◌≡◌, ℕ, zero, suc, ◌*◌, ◌<◌, ◌≤◌, sym, ap, subst, ◌∙◌, arith, ℤ, pos, negsuc, ◌+ℤ◌, ◌*ℤ◌, neg_ℤ, ◌≤ℤ◌, IsTrue, unsigned_abs}
use Rattle.std.proofs.lemmas.Bool.{cases_Bool, eqb-true, true≢false, cond-true, cond-false}
use Rattle.uc_model.specs.Prelude.{sum_below, bit, Thermal, Commitment, category_cost, is_category_allowed, category_holds_at, Instance, Row, Schedule, thermal_unit, thermal_count, point, point_count, Category, Production, Obeys, production_cost, cell_cost, unit_cost, shortage_cost, cost, IsLawfulThermal, IsLawfulInstance, MAX_COST, MAX_SHORTAGE_COST, COST_MAX}
use Rattle.uc_model.proofs.Ring.{linear, le_trans, scale-le-scale, mul-neg, mul_comm, mul-add, mul-one, pos-le-pos}
use Rattle.uc_model.proofs.Sums.{sum_below-le, sum_below-mul_left, sum_below-const}
use Rattle.uc_model.proofs.Obeyed.{rule_at, Produces, production_parts}
use Rattle.uc_model.proofs.MinimumTimes.{bit-le-one}
use Rattle.uc_model.proofs.Shortages.{shortages_nonneg, shortages-le}

-- z is at most m in size
pub record IsWithin (m z : ℤ) : Type 0 where
  pub low : neg_ℤ m ≤ℤ z
  pub high : z ≤ℤ m

pub within_of_abs : (z : ℤ) (n : ℕ) → unsigned_abs z ≤ n → IsWithin (pos n) z
within_of_abs (pos k) n h = record { low = omega (arith, linear); high = omega (arith, linear) }
within_of_abs (negsuc k) n h = record { low = omega (arith, linear); high = omega (arith, linear) }

pub abs_of_within : (z : ℤ) (n : ℕ) → IsWithin (pos n) z → unsigned_abs z ≤ n
abs_of_within (pos k) n h = omega (arith, linear)
abs_of_within (negsuc k) n h = omega (arith, linear)

pub within_add : (m n a b : ℤ) → IsWithin m a → IsWithin n b → IsWithin (m +ℤ n) (a +ℤ b)
within_add m n a b h k = record { low = omega (arith, linear); high = omega (arith, linear) }

pub within_more : (m n a : ℤ) → IsWithin m a → m ≤ℤ n → IsWithin n a
within_more m n a h k = record { low = omega (arith, linear); high = omega (arith, linear) }

pub within_scale : (q : ℕ) (m a : ℤ) → IsWithin m a → IsWithin (pos q *ℤ m) (pos q *ℤ a)
within_scale q m a h = record {
  low = subst (λ x. x ≤ℤ (pos q *ℤ a)) (mul-neg (pos q) m) (scale-le-scale q (neg_ℤ m) a h.low);
  high = scale-le-scale q a m h.high;
}

-- a sum of terms, each within its bound, is within the sum of the bounds
sum_below-neg_le : (n : ℕ) (f g : ℕ → ℤ) → ((k : ℕ) → k < n → IsWithin (g k) (f k)) → neg_ℤ (sum_below n g) ≤ℤ sum_below n f
sum_below-neg_le zero f g h = omega (arith, linear)
sum_below-neg_le (suc n) f g h =
    let before = sum_below-neg_le n f g (λ k l. h k (omega arith)) in
    let last = (h n (omega arith)).low in
    omega (arith, linear)

pub within_sum : (n : ℕ) (f g : ℕ → ℤ) → ((k : ℕ) → k < n → IsWithin (g k) (f k)) → IsWithin (sum_below n g) (sum_below n f)
within_sum n f g h = record { low = sum_below-neg_le n f g h; high = sum_below-le n f g (λ k l. (h k l).high) }

pub within_const_sum : (n : ℕ) (f : ℕ → ℤ) (m : ℤ) → ((k : ℕ) → k < n → IsWithin m (f k)) → IsWithin (pos n *ℤ m) (sum_below n f)
within_const_sum n f m h = subst (λ b. IsWithin b (sum_below n f)) (sum_below-const n m) (within_sum n f (λ k. m) h)

-- a cost within a bound, times a weight
weighted : (w : ℕ) (m c : ℤ) → IsWithin m c → IsWithin (m *ℤ pos w) (c *ℤ pos w)
weighted w m c h =
    subst (λ b. IsWithin b (c *ℤ pos w)) (mul_comm (pos w) m)
    (subst (λ z. IsWithin (pos w *ℤ m) z) (mul_comm (pos w) c) (within_scale w m c h))

most : ℤ
most = pos MAX_COST

-- the production cost of a cell whose weights sum to at most q
production_cost_fits : (q : ℕ) (unit : Thermal) (row : Row) (t : ℕ) → IsLawfulThermal unit → Produces q unit row t
    → IsWithin (pos q *ℤ pos MAX_COST) (production_cost unit row t)
production_cost_fits q unit row t lawful made =
    let bounds = within_sum (point_count unit) (λ l. (point unit l).cost *ℤ pos (row.weight t l)) (λ l. pos MAX_COST *ℤ pos (row.weight t l))
    (λ l h. weighted (row.weight t l) (pos MAX_COST) (point unit l).cost (within_of_abs _ _ (lawful.costs l h)))
    in
    let factored = sum_below-mul_left (point_count unit) (pos MAX_COST) (λ l. pos (row.weight t l)) in
    let total : sum_below (point_count unit) (λ l. pos MAX_COST *ℤ pos (row.weight t l)) ≡ pos MAX_COST *ℤ (pos q *ℤ bit (row.on t)) =
    factored ∙ ap (λ z. pos MAX_COST *ℤ z) made.total
    in
    let capped : (pos q *ℤ bit (row.on t)) ≤ℤ (pos q *ℤ pos 1) = scale-le-scale q _ _ (bit-le-one (row.on t)) in
    let whole : (pos MAX_COST *ℤ (pos q *ℤ bit (row.on t))) ≤ℤ (pos q *ℤ pos MAX_COST) =
    subst (λ z. (pos MAX_COST *ℤ (pos q *ℤ bit (row.on t))) ≤ℤ z)
    (ap (λ z. pos MAX_COST *ℤ z) (mul-one (pos q)) ∙ mul_comm (pos MAX_COST) (pos q))
    (scale-le-scale MAX_COST _ _ capped)
    in
    within_more _ _ _ (subst (λ b. IsWithin b (production_cost unit row t)) total bounds) whole

zero_within : (n : ℕ) → IsWithin (pos n) (pos 0)
zero_within n = record { low = omega (arith, linear); high = omega (arith, linear) }

-- a category that M6 allows is one of the unit's rows
allowed_cost_fits : (unit : Thermal) (on : Commitment) (s t : ℕ) → IsLawfulThermal unit → IsTrue (is_category_allowed unit on s t)
    → IsWithin (pos MAX_COST) (category_cost unit s)
allowed_cost_fits unit on zero t lawful h = absurd (true≢false (sym h))
allowed_cost_fits unit on (suc s) t lawful h = grind (arith, linear, lawful, h)

pub category_cost_fits : (unit : Thermal) (row : Row) (t : ℕ) → IsLawfulThermal unit
    → IsTrue (category_holds_at unit row.on row.category t) → IsWithin (pos MAX_COST) (category_cost unit (row.category t))
category_cost_fits unit row t lawful h = grind (arith, linear, allowed_cost_fits, cond-true, eqb-true, cond-false, zero_within, cases_Bool, lawful, h)

cell_cost_fits : (instance : Instance) (q : ℕ) (x : Schedule) (g t : ℕ) → Obeys instance q x
    → g < thermal_count instance → t < instance.periods → IsLawfulThermal (thermal_unit instance g)
    → IsWithin (pos q *ℤ pos (2 * MAX_COST)) (cell_cost q (thermal_unit instance g) (x.thermal g) t)
cell_cost_fits instance q x g t obeys hg ht lawful =
    let unit = thermal_unit instance g in
    let row = x.thermal g in
    let made = production_parts q unit row t (rule_at instance q x obeys Production g t hg ht) in
    let category = category_cost_fits unit row t lawful (rule_at instance q x obeys Category g t hg ht) in
    subst (λ b. IsWithin b (cell_cost q unit row t)) (sym (mul-add (pos q) (pos MAX_COST) (pos MAX_COST)))
    (within_add _ _ _ _ (production_cost_fits q unit row t lawful made) (within_scale q _ _ category))

-- from 0 to the most that shortages may cost
pub within_shortages : (z most : ℤ) → pos 0 ≤ℤ z → z ≤ℤ most → IsWithin most z
within_shortages z most low high = record { low = omega (arith, linear); high = high }

shortages_fit : (instance : Instance) (q : ℕ) (x : Schedule) → IsLawfulInstance instance → Obeys instance q x
    → IsWithin (pos q *ℤ pos MAX_SHORTAGE_COST) (sum_below instance.periods (shortage_cost instance x))
shortages_fit instance q x lawful obeys =
    within_shortages _ _ (shortages_nonneg instance q x obeys)
    (le_trans _ _ _ (shortages-le instance q x obeys) (scale-le-scale q _ _ lawful.shortages))

-- every schedule's cost is at most q * COST_MAX in size
pub cost_fits : (instance : Instance) (q : ℕ) (x : Schedule) → IsLawfulInstance instance → Obeys instance q x
    → unsigned_abs (cost instance q x) ≤ q * COST_MAX
cost_fits instance q x lawful obeys =
    let cell = pos q *ℤ pos (2 * MAX_COST) in
    let units = λ (g : ℕ) (hg : g < thermal_count instance).
    within_const_sum instance.periods (cell_cost q (thermal_unit instance g) (x.thermal g)) cell
    (λ t ht. cell_cost_fits instance q x g t obeys hg ht (lawful.thermal g hg))
    in
    let all = within_const_sum (thermal_count instance) (λ g. unit_cost instance.periods q (thermal_unit instance g) (x.thermal g)) (pos instance.periods *ℤ cell) units in
    abs_of_within _ _ (within_more _ _ _ (within_add _ _ _ _ all (shortages_fit instance q x lawful obeys))
    (pos-le-pos _ _ (grind (arith, lawful.thermal_units, lawful.periods.1))))
