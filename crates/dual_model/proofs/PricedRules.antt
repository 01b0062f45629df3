-- What the rules give at their prices, for a schedule that obeys: each unit's periods are `Priced`, and the whole is
-- `Balanced`.
use Rattle.std.proofs.Common.{◌≡◌, ℕ, suc, ◌<◌, false, not, ◌&&◌, cond, sym, ap, ◌∙◌, arith, ⊎_elim, ℤ, pos, ◌+ℤ◌, ◌-ℤ◌, ◌*ℤ◌, neg_ℤ, ◌≤ℤ◌, IsTrue, nat_lt, int_lt, int_le}
use Rattle.std.specs.Int.{int_min, int_max}
use Rattle.std.proofs.lemmas.Int.{ints}
use Rattle.std.proofs.lemmas.Bool.{and_parts, or_cases, cases_Bool, cond_both, cond-true, cond-false, not_from_true, true≢false, ltb-false}
use Rattle.uc_model.specs.Prelude.{bit, starts, cap, start_cap, stop_cap, sigma, last_stop, category_cost, category_holds_at, Row, Schedule, thermal_unit, thermal_count, point, point_count, p_at, weight_sum, renewable_minimum, renewable_maximum, most_shed, most_short, production_cost, shortage_cost, Production, StartCap, StopCap, Obeys, stop_cap_at}
use Rattle.uc_model.proofs.Common.{linear, spread, scale-le-scale, mul-le-mul_left, mul-le-mul_right, mul-le-mul_turned, mul_left_comm, mul_assoc, mul-add, sub-mul, mul-one, mul-zero, mul-neg, pos_nonneg, sum_below-zero, term-le-sum_below, int_le-true, int_min_left, int_min_right, rule_at, Produces, production_parts, IsShortage, shed_parts, short_parts}
use Rattle.dual_model.specs.Prelude.{Instance, Table, pi_at, mu_at, IsCellBound, output_price, reserve_price, Thermal, renewable_value, shortage_value, shortages_value, least_start_cost, cell_cost_by_least_starts}
use Rattle.dual_model.specs.UnitValue.{period_value}
use Rattle.dual_model.proofs.LeastStarts.{start_scaled, least_start-category}

-- ---- start costs
-- K times the least start cost of a start is at most that of its category, and a cell without a start has none
pub start_priced : (k : ℤ) (q : ℕ) (unit : Thermal) (row : Row) (t : ℕ) → pos 0 ≤ℤ k → IsTrue (category_holds_at unit row.on row.category t)
    → (pos q *ℤ cond (starts unit row.on t) (k *ℤ sigma unit (last_stop unit row.on t) t) (pos 0))
    ≤ℤ (k *ℤ (pos q *ℤ category_cost unit (row.category t)))
start_priced k q unit row t sign holds =
    let below = scale-le-scale q _ _ (least_start-category unit row.on row.category t holds) in
    let times = mul-le-mul_left k _ _ sign below in
    let same = start_scaled k (pos q) (starts unit row.on t) (sigma unit (last_stop unit row.on t) t) in
    omega (arith, linear)

-- ---- an on cell
-- output and reserve stay within the cap
pub within_cap : (periods q : ℕ) (unit : Thermal) (row : Row) (t : ℕ)
    → (p_at unit row t +ℤ row.reserve t) ≤ℤ (pos q *ℤ start_cap unit row.on t)
    → IsTrue (stop_cap_at periods q unit row t)
    → (p_at unit row t +ℤ row.reserve t) ≤ℤ (pos q *ℤ cap periods unit row.on t)
within_cap periods q unit row t started stopped =
    cond_both (nat_lt (suc t) periods) _ _ (λ c. (p_at unit row t +ℤ row.reserve t) ≤ℤ (pos q *ℤ c))
    (λ before.
    ⊎_elim
    (λ (last : IsTrue (not (nat_lt (suc t) periods))). absurd (true≢false (sym last ∙ not_from_true _ before)))
    (λ below. either (start_cap unit row.on t) (stop_cap unit row.on t) started (int_le-true _ _ below))
    (or_cases _ _ stopped))
    (λ last. started)
  where
    either : (a b : ℤ) → (p_at unit row t +ℤ row.reserve t) ≤ℤ (pos q *ℤ a) → (p_at unit row t +ℤ row.reserve t) ≤ℤ (pos q *ℤ b)
        → (p_at unit row t +ℤ row.reserve t) ≤ℤ (pos q *ℤ int_min a b)
    either a b h k = cond_both (int_lt b a) b a (λ c. (p_at unit row t +ℤ row.reserve t) ≤ℤ (pos q *ℤ c)) (λ e. k)
        (λ e. h)

on_parts : (q term pi pmin start k made least a p b r value u : ℤ) → value ≡ term -ℤ pi *ℤ pmin → u ≡ pos 1
    → (q *ℤ term) ≤ℤ (k *ℤ made +ℤ a *ℤ p +ℤ b *ℤ r) → q *ℤ start ≡ k *ℤ (q *ℤ least)
    → (q *ℤ (value +ℤ start)) ≤ℤ (k *ℤ (made +ℤ q *ℤ least) +ℤ a *ℤ p +ℤ b *ℤ r -ℤ pi *ℤ (q *ℤ pmin *ℤ u))
on_parts q term pi pmin start k made least a p b r value u is_value is_on bound begun = grind (arith, ints, mul_left_comm, mul-one, spread, is_value, is_on, bound, begun)

off_parts : (q pmin start pi k made least a p b r value u : ℤ) → value ≡ pos 0 → u ≡ pos 0 → made ≡ pos 0 → p ≡ pos 0 → r ≡ pos 0
    → q *ℤ start ≡ k *ℤ (q *ℤ least)
    → (q *ℤ (value +ℤ start)) ≤ℤ (k *ℤ (made +ℤ q *ℤ least) +ℤ a *ℤ p +ℤ b *ℤ r -ℤ pi *ℤ (q *ℤ pmin *ℤ u))
off_parts q pmin start pi k made least a p b r value u is_value is_off none p_none r_none begun =
    grind (arith, ints, mul-zero, spread, is_value, is_off, none, p_none, r_none, begun)

-- ---- an off cell has no weights, so it costs nothing
pub made_off : (q : ℕ) (unit : Thermal) (row : Row) (t : ℕ) → weight_sum unit row t ≡ pos 0 → production_cost unit row t ≡ pos 0
made_off q unit row t none =
    sum_below-zero (point_count unit) (λ l. (point unit l).cost *ℤ pos (row.weight t l))
    (λ l h. ap (λ w. (point unit l).cost *ℤ w) (weight_none l h) ∙ mul-zero (point unit l).cost)
  where
    weight_none : (l : ℕ) → l < point_count unit → pos (row.weight t l) ≡ pos 0
    weight_none l h =
        let most = term-le-sum_below (point_count unit) (λ k. pos (row.weight t k)) l h
        (λ k m. pos_nonneg (row.weight t k)) in
        let least = pos_nonneg (row.weight t l) in
        omega (arith, linear)

-- q times the value of a period is at most K times its cost by least starts and the prices of its output and reserve
pub period_priced : (instance : Instance) (q : ℕ) (x : Schedule) (table : Table) (g t : ℕ) (term : ℕ → ℤ) → Obeys instance q x
    → g < thermal_count instance → t < instance.periods
    → (IsTrue ((x.thermal g).on t)
    → IsCellBound (thermal_unit instance g).points table.k (output_price table g t) (reserve_price table g t)
    (cap instance.periods (thermal_unit instance g) (x.thermal g).on t) (term t))
    → (pos q *ℤ period_value table (thermal_unit instance g) (x.thermal g).on term t)
    ≤ℤ (table.k *ℤ cell_cost_by_least_starts q (thermal_unit instance g) (x.thermal g) t
    +ℤ output_price table g t *ℤ p_at (thermal_unit instance g) (x.thermal g) t
    +ℤ reserve_price table g t *ℤ (x.thermal g).reserve t
    -ℤ pi_at table t *ℤ (pos q *ℤ (thermal_unit instance g).pmin *ℤ bit ((x.thermal g).on t)))
period_priced instance q x table g t term obeys hg ht bound =
    let unit = thermal_unit instance g in
    let row = x.thermal g in
    let made : Produces q unit row t = production_parts q unit row t
    (rule_at instance q x obeys Production g t hg ht) in
    let begun = start_scaled table.k (pos q) (starts unit row.on t) (sigma unit (last_stop unit row.on t) t) in
    ⊎_elim
    (λ (on : IsTrue (row.on t)).
    let is_on : bit (row.on t) ≡ pos 1 = ap bit on in
    let whole : weight_sum unit row t ≡ pos q = made.total ∙ ap (λ u. pos q *ℤ u) is_on ∙ mul-one (pos q) in
    let started = int_le-true _ _ (rule_at instance q x obeys StartCap g t hg ht) in
    let fits = within_cap instance.periods q unit row t started (rule_at instance q x obeys StopCap g t hg ht) in
    on_parts (pos q) (term t) (pi_at table t) unit.pmin _ table.k (production_cost unit row t)
    (least_start_cost unit row.on t)
    (output_price table g t) (p_at unit row t) (reserve_price table g t) (row.reserve t) _ _
    (cond-true (row.on t) _ _ on) is_on ((bound on).below q (row.weight t) (row.reserve t) whole made.reserve fits)
    begun)
    (λ (off : row.on t ≡ false).
    let is_off : bit (row.on t) ≡ pos 0 = ap bit off in
    let none : weight_sum unit row t ≡ pos 0 = made.total ∙ ap (λ u. pos q *ℤ u) is_off ∙ mul-zero (pos q) in
    let idle = made.idle off in
    off_parts (pos q) unit.pmin _ (pi_at table t) table.k (production_cost unit row t)
    (least_start_cost unit row.on t)
    (output_price table g t) (p_at unit row t) (reserve_price table g t) (row.reserve t) _ _
    (cond-false (row.on t) _ _ off) is_off (made_off q unit row t none) idle.0 idle.1 begun)
    (cases_Bool (row.on t))

-- ---- what is missing of a need
-- q times what it adds to the value is at most K times its cost, less what it would be paid
shortage_priced : (q price : ℕ) (k multiplier most missing : ℤ) → IsShortage q price most missing
    → (pos q *ℤ shortage_value k price multiplier most) ≤ℤ (k *ℤ (pos price *ℤ missing) -ℤ multiplier *ℤ missing)
shortage_priced q price k multiplier most missing h =
    cond_both (nat_lt 0 price) (int_min (pos 0) (k *ℤ pos price -ℤ multiplier) *ℤ most) (pos 0)
    (λ v. (pos q *ℤ v) ≤ℤ (k *ℤ (pos price *ℤ missing) -ℤ multiplier *ℤ missing))
    (λ some.
    let least = int_min (pos 0) (k *ℤ pos price -ℤ multiplier) in
    let turned = mul-le-mul_turned least missing (pos q *ℤ most) (int_min_left (pos 0) (k *ℤ pos price -ℤ multiplier)) h.within in
    let raised = mul-le-mul_right missing least (k *ℤ pos price -ℤ multiplier) h.nonneg (int_min_right (pos 0) (k *ℤ pos price -ℤ multiplier)) in
    let order = mul_left_comm (pos q) least most in
    let parted = sub-mul (k *ℤ pos price) multiplier missing in
    let grouped = mul_assoc k (pos price) missing in
    omega (arith, linear))
    (λ none.
    let nothing = h.priced (no_price price none) in
    let cost : k *ℤ (pos price *ℤ missing) ≡ pos 0 =
    ap (λ z. k *ℤ (pos price *ℤ z)) nothing ∙ ap (λ z. k *ℤ z) (mul-zero (pos price)) ∙ mul-zero k in
    let paid : multiplier *ℤ missing ≡ pos 0 = ap (λ z. multiplier *ℤ z) nothing ∙ mul-zero multiplier in
    let zero = mul-zero (pos q) in
    omega (arith, linear))
  where
    no_price : (p : ℕ) → nat_lt 0 p ≡ false → p ≡ 0
    no_price p e = omega (arith, ltb-false 0 p e)

pub shortages_priced : (instance : Instance) (q : ℕ) (x : Schedule) (table : Table) (t : ℕ) → Obeys instance q x → t < instance.periods
    → (pos q *ℤ shortages_value instance table t)
    ≤ℤ (table.k *ℤ shortage_cost instance x t -ℤ (pi_at table t *ℤ x.shed t +ℤ mu_at table t *ℤ x.short t))
shortages_priced instance q x table t obeys ht =
    let shed = shortage_priced q instance.a table.k (pi_at table t) _ (x.shed t) (shed_parts instance q x t obeys ht) in
    let short = shortage_priced q instance.b table.k (mu_at table t) _ (x.short t) (short_parts instance q x t obeys ht) in
    let worth = mul-add (pos q) (shortage_value table.k instance.a (pi_at table t) (most_shed instance t))
    (shortage_value table.k instance.b (mu_at table t) (most_short instance t)) in
    let costs = mul-add table.k (pos instance.a *ℤ x.shed t) (pos instance.b *ℤ x.short t) in
    omega (arith, linear)

-- ---- a renewable cell

renewable_bounds : (q pi low high output : ℤ) → (q *ℤ low) ≤ℤ output → output ≤ℤ (q *ℤ high)
    → (q *ℤ cond (int_lt (pos 0) pi) (neg_ℤ (pi *ℤ high)) (neg_ℤ (pi *ℤ low))) ≤ℤ neg_ℤ (pi *ℤ output)
renewable_bounds q pi low high output above below =
    cond_both (int_lt (pos 0) pi) (neg_ℤ (pi *ℤ high)) (neg_ℤ (pi *ℤ low)) (λ v. (q *ℤ v) ≤ℤ neg_ℤ (pi *ℤ output))
    (λ up.
    let most = mul-le-mul_left pi _ _ (grind (arith, ints)) below in
    let order = mul_left_comm pi q high in
    let turned = mul-neg q (pi *ℤ high) in
    omega (arith, linear))
    (λ down.
    let least = mul-le-mul_turned pi _ _ (grind (arith, ints)) above in
    let order = mul_left_comm pi q low in
    let turned = mul-neg q (pi *ℤ low) in
    omega (arith, linear))

pub renewable_priced : (instance : Instance) (q : ℕ) (x : Schedule) (table : Table) (w t : ℕ) → Obeys instance q x
    → IsTrue (int_le (pos q *ℤ int_max (renewable_minimum instance w t) (pos 0)) (x.output w t)
    && int_le (x.output w t) (pos q *ℤ renewable_maximum instance w t))
    → (pos q *ℤ renewable_value instance table w t) ≤ℤ neg_ℤ (pi_at table t *ℤ x.output w t)
renewable_priced instance q x table w t obeys holds =
    let parts = and_parts _ _ holds in
    renewable_bounds (pos q) (pi_at table t) _ _ (x.output w t) (int_le-true _ _ parts.0) (int_le-true _ _ parts.1)
