-- A thermal unit's value is at most what it costs in the schedule, with what it is charged: period by period the term of its cell
-- is, as the weights of least cost at the cell's output show.
use Rattle.std.proofs.Common.{◌≡◌, ℕ, ◌<◌, false, refl, sym, ap, subst, ◌∙◌, arith, ⊎_elim, List, ℤ, pos, ◌+ℤ◌, ◌-ℤ◌, ◌*ℤ◌, ◌≤ℤ◌, ◌<ℤ◌, IsTrue, if◌then◌else◌}
use Rattle.std.proofs.lemmas.Bool.{cases_Bool, cond-true, cond-false}
use Rattle.uc_model.specs.Prelude.{sum_below, bit, cap, starts, category_cost, last_stop, sigma, thermal_unit, thermal_count, weighted_cost, weighted_output, hull_cost, segment_cost, Category, cell_at, printed_cell_cost, printed_denominator, printed_schedule}
use Rattle.uc_model.specs.declared.instance.Point.{Point}
use Rattle.uc_model.proofs.Common.{linear, spread, le_from_mul, mul-add, mul-le-mul_left, mul-one, mul-zero, mul_left_comm, mul_nonneg, one-mul, pos_nonneg, scale-le-scale, sum_below-add, sum_below-le, sum_below-mul_left, segment_at-holds, rule_at}
use Rattle.cost_curves.specs.LeastCost.{CostsAtMost}
use Rattle.cost_curves.specs.LowerHull.{AreLawfulPoints, width_of}
use Rattle.cost_curves.proofs.FirstSegments.{segment_least}
use Rattle.cost_curves.proofs.HullExists.{segment-there}
use Rattle.cost_curves.proofs.UnitPoints.{lawful_points}
use Rattle.dual_model.specs.Prelude.{pi_at, IsCellBound, output_price, reserve_price, root, IsUnitValue, period_value}
use Rattle.dual_model.proofs.Agreement.{pattern-obeying}
use Rattle.dual_model.proofs.PricedRules.{start_priced}
use Rattle.dual_model.proofs.UnitValues.{allowed_value}
use Rattle.schedule_check.specs.WholeWatts.{commitment, row_of}
use Rattle.uplift.specs.Uplift.{Instance, Printed, Table, cell_charge, printed_unit_cost}
use Rattle.uplift.proofs.Whole.{IsWhole, produced, within_cap}

-- ---- an on cell
-- weights that give an output cost no more than the hull there, rounded up
reached : (points : List Point) (p : ℤ) → AreLawfulPoints points → pos 0 ≤ℤ p → p ≤ℤ width_of points
    → CostsAtMost points 1 p (hull_cost points 1 p)
reached points p lawful low high =
    let found = segment-there points 1 p lawful (omega arith) low (omega (arith, linear, high, one-mul (width_of points))) in
    subst (λ s. CostsAtMost points 1 p (segment_cost points 1 p s)) (sym found.1)
    (segment_least points 1 p found.0 (omega arith) (segment_at-holds points 1 p found.0 found.1)).reached

-- so a bound of the cell is at most what it costs with the prices of its output and reserve
on_bound : (points : List Point) (k a b room m p r n : ℤ) → pos 0 ≤ℤ k → IsCellBound points k a b room m → CostsAtMost points 1 p n
    → pos 0 ≤ℤ r → (p +ℤ r) ≤ℤ room → m ≤ℤ (k *ℤ n +ℤ a *ℤ p +ℤ b *ℤ r)
on_bound points k a b room m p r n sign bounds costs reserve within =
    let q = pos costs.q in
    let made = weighted_output points costs.weight in
    let spent = weighted_cost points costs.weight in
    let output : made ≡ q *ℤ p = sym (one-mul made) ∙ costs.output in
    let held : pos 0 ≤ℤ (q *ℤ r) = mul_nonneg q r (pos_nonneg costs.q) reserve in
    let scaled = scale-le-scale costs.q (p +ℤ r) room within in
    let parted = mul-add q p r in
    let fits : (made +ℤ q *ℤ r) ≤ℤ (q *ℤ room) = omega (arith, linear, output, scaled, parted) in
    let bound : (q *ℤ m) ≤ℤ (k *ℤ spent +ℤ a *ℤ made +ℤ b *ℤ (q *ℤ r)) = bounds.below costs.q costs.weight (q *ℤ r) costs.total held fits in
    let cost = mul-le-mul_left k spent (q *ℤ n) sign costs.cost in
    let first = mul_left_comm k q n in
    let second : a *ℤ made ≡ q *ℤ (a *ℤ p) = ap (λ z. a *ℤ z) output ∙ mul_left_comm a q p in
    let third = mul_left_comm b q r in
    let outer = mul-add q (k *ℤ n +ℤ a *ℤ p) (b *ℤ r) in
    let inner = mul-add q (k *ℤ n) (a *ℤ p) in
    let positive : pos 0 <ℤ q = omega (arith, linear, costs.positive) in
    le_from_mul q m (k *ℤ n +ℤ a *ℤ p +ℤ b *ℤ r) positive (omega (arith, linear, bound, cost, first, second, third, outer, inner))

-- ---- a cell, by whether it is on
on_parts : (term pi pmin start k hull category a p b r value made u : ℤ) → value ≡ term -ℤ pi *ℤ pmin → made ≡ hull → u ≡ pos 1
    → term ≤ℤ (k *ℤ hull +ℤ a *ℤ p +ℤ b *ℤ r) → start ≤ℤ (k *ℤ category)
    → (value +ℤ start) ≤ℤ (k *ℤ (made +ℤ category) +ℤ (a *ℤ p +ℤ b *ℤ r -ℤ pi *ℤ (pmin *ℤ u)))
on_parts term pi pmin start k hull category a p b r value made u is_value is_made is_on bound begun =
    rw (is_value, is_made, is_on, mul-one pmin) (simp spread (omega (arith, linear)))

off_parts : (pmin start pi k category a p b r value made u : ℤ) → value ≡ pos 0 → made ≡ pos 0 → u ≡ pos 0 → p ≡ pos 0 → r ≡ pos 0
    → start ≤ℤ (k *ℤ category)
    → (value +ℤ start) ≤ℤ (k *ℤ (made +ℤ category) +ℤ (a *ℤ p +ℤ b *ℤ r -ℤ pi *ℤ (pmin *ℤ u)))
off_parts pmin start pi k category a p b r value made u is_value is_made is_off p_none r_none begun =
    grind (arith, linear, mul-zero, spread, is_value, is_made, is_off, p_none, r_none, begun)

-- K times the least start cost of a cell is at most that of its category
begun : (instance : Instance) (printed : Printed) (table : Table) (g t : ℕ) → IsWhole instance printed → g < thermal_count instance
    → t < instance.periods → pos 0 ≤ℤ table.k
    → (let unit = thermal_unit instance g in
    let on = commitment (row_of printed g) in
    (if starts unit on t then table.k *ℤ sigma unit (last_stop unit on t) t else pos 0)
    ≤ℤ (table.k *ℤ category_cost unit (cell_at printed g t).category))
begun instance printed table g t h hg ht sign =
    let q = printed_denominator instance printed in
    let x = printed_schedule instance printed q in
    let unit = thermal_unit instance g in
    let on = commitment (row_of printed g) in
    let start = if starts unit on t then table.k *ℤ sigma unit (last_stop unit on t) t else pos 0 in
    let category = category_cost unit (cell_at printed g t).category in
    let priced : (pos 1 *ℤ start) ≤ℤ (table.k *ℤ (pos 1 *ℤ category)) =
    start_priced table.k 1 unit (x.thermal g) t sign (rule_at instance q x h.obeys Category g t hg ht) in
    let left = one-mul start in
    let right = ap (λ z. table.k *ℤ z) (one-mul category) in
    omega (arith, linear, priced, left, right)

-- the value of a period is at most what its cell costs, with what it is charged
cell_bound : (instance : Instance) (printed : Printed) (table : Table) (g t : ℕ) (term : ℕ → ℤ) → IsWhole instance printed
    → g < thermal_count instance → t < instance.periods → pos 0 ≤ℤ table.k
    → (let unit = thermal_unit instance g in
    IsTrue (commitment (row_of printed g) t)
    → IsCellBound unit.points table.k (output_price table g t) (reserve_price table g t)
    (cap instance.periods unit (commitment (row_of printed g)) t) (term t))
    → period_value table (thermal_unit instance g) (commitment (row_of printed g)) term t
    ≤ℤ (table.k *ℤ printed_cell_cost (thermal_unit instance g) 1 (cell_at printed g t) +ℤ cell_charge instance printed table g t)
cell_bound instance printed table g t term h hg ht sign bounds =
    let unit = thermal_unit instance g in
    let cell = cell_at printed g t in
    let on = commitment (row_of printed g) in
    let start = if starts unit on t then table.k *ℤ sigma unit (last_stop unit on t) t else pos 0 in
    let made = produced instance printed h g t hg ht in
    let started = begun instance printed table g t h hg ht sign in
    ⊎_elim
    (λ (is_on : IsTrue cell.on).
    let costs = reached unit.points cell.p (lawful_points unit (h.lawful.thermal g hg)) (made.low is_on) (made.high is_on) in
    let bound = on_bound unit.points table.k (output_price table g t) (reserve_price table g t) (cap instance.periods unit on t) (term t)
    cell.p cell.r (hull_cost unit.points 1 cell.p) sign (bounds is_on) costs made.reserve (within_cap instance printed h g t hg ht) in
    on_parts (term t) (pi_at table t) unit.pmin start table.k (hull_cost unit.points 1 cell.p) (category_cost unit cell.category)
    (output_price table g t) cell.p (reserve_price table g t) cell.r _ _ (bit cell.on) (cond-true cell.on _ _ is_on) (cond-true cell.on _ _ is_on)
    (ap bit is_on) bound started)
    (λ (is_off : cell.on ≡ false).
    off_parts unit.pmin start (pi_at table t) table.k (category_cost unit cell.category) (output_price table g t) cell.p (reserve_price table g t)
    cell.r _ _ (bit cell.on) (cond-false cell.on _ _ is_off) (cond-false cell.on _ _ is_off) (ap bit is_off) (made.idle is_off) (made.none is_off) started)
    (cases_Bool cell.on)

-- ---- the unit
pub value-le : (instance : Instance) (printed : Printed) (table : Table) (g : ℕ) (value : ℤ) → IsWhole instance printed
    → g < thermal_count instance → pos 0 ≤ℤ table.k → IsUnitValue instance root table g value
    → value ≤ℤ (table.k *ℤ printed_unit_cost instance printed g +ℤ sum_below instance.periods (cell_charge instance printed table g))
value-le instance printed table g value h hg sign is_value =
    let n = instance.periods in
    let q = printed_denominator instance printed in
    let x = printed_schedule instance printed q in
    let unit = thermal_unit instance g in
    let on = commitment (row_of printed g) in
    let lawful = h.lawful.thermal g hg in
    let pattern = pattern-obeying instance root q x g h.lawful.periods.0 h.obeys refl hg lawful in
    let own = allowed_value instance table g on lawful.points.0 pattern.allowed in
    let least : value ≤ℤ own.0 = is_value.best.least on own.0 pattern own.1 in
    let cost = λ (t : ℕ). printed_cell_cost unit 1 (cell_at printed g t) in
    let charged = cell_charge instance printed table g in
    let each : sum_below n (period_value table unit on own.1.term) ≤ℤ sum_below n (λ t. table.k *ℤ cost t +ℤ charged t) =
    sum_below-le n (period_value table unit on own.1.term) (λ t. table.k *ℤ cost t +ℤ charged t)
    (λ t ht. cell_bound instance printed table g t own.1.term h hg ht sign (λ is_on. (own.1.terms t ht is_on).bound)) in
    let parted = sum_below-add n (λ t. table.k *ℤ cost t) charged in
    let costs = sum_below-mul_left n table.k cost in
    let total = own.1.total in
    let whole : table.k *ℤ sum_below n cost ≡ table.k *ℤ printed_unit_cost instance printed g =
    ap (λ d. table.k *ℤ sum_below n (λ t. printed_cell_cost unit d (cell_at printed g t))) (sym h.one) in
    omega (arith, linear, least, each, parted, costs, total, whole)
