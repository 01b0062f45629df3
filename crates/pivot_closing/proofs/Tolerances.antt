-- The value at the exact dispatch's prices is K times its schedule's cost, so the printed cost is within a wide gap of the bound; and a ray's
-- value is above 0.
-- Cite by `use Rattle.pivot_closing.proofs.Tolerances.{best_within, ray_positive}`.
use Rattle.std.proofs.Common.{◌≡◌, ℕ, zero, suc, ◌+◌, ◌*◌, ◌<◌, ◌≤◌, ⊎_elim, Bool, true, false, refl, sym, ap, subst, ◌∙◌, arith, List, ℤ, pos, ◌+ℤ◌, ◌-ℤ◌, ◌*ℤ◌, ◌≤ℤ◌, ◌<ℤ◌, IsTrue, Some, if◌then◌else◌}
use Rattle.std.proofs.lemmas.Bool.{cases_Bool, cond-true, cond-false, true≢false}
use Rattle.uc_model.specs.Prelude.{sum_below, Commitment, starts, is_allowed, production_cost, cell_cost, shortage_cost, cost, IsFloor, IsLawfulThermal, IsLawfulInstance, cell_at, printed_cost, Schedule, thermal_unit, thermal_count, category_cost, is_category_allowed, last_stop, sigma, tolerance_of}
use Rattle.uc_model.specs.declared.instance.Thermal.{Thermal}
use Rattle.uc_model.specs.declared.instance.Instance.{Instance}
use Rattle.uc_model.specs.declared.schedule.Printed.{Printed}
use Rattle.uc_model.proofs.Common.{IsFloor-greatest, IsFloor-int_div_euclid, linear, le_refl, le_antisymm, mul_comm, mul_left_comm, mul-sub, mul-le-mul_left, le_from_mul, pos_nonneg, sum_below-same, le-int_le}
use Rattle.dual_model.specs.Prelude.{least_start_cost, cell_cost_by_least_starts, cost_by_least_starts, IsNodeValue, node_total, IsValueOf}
use Rattle.dual_model.specs.declared.node.Node.{Node}
use Rattle.dual_model.specs.declared.table.Table.{Table}
use Rattle.dual_model.proofs.ExactValues.{exact_values_reach}
use Rattle.dual_model.proofs.Locality.{SameBelow, starts-same, sigma-same}
use Rattle.start_costs.specs.Cheapest.{HasLeastCategory}
use Rattle.start_costs.specs.Regular.{AreStartsRegular}
use Rattle.start_costs.proofs.RegularStarts.{regular}
use Rattle.branch_tree.specs.Prelude.{is_within_gap}
use Rattle.search_machine.specs.Prelude.{bound_of}
use Rattle.dispatch_rules.specs.Prelude.{Pattern, AreAllowed, commitment_at}
use Rattle.pivot_dispatch.specs.Commitments.{IsBestOf, IsRayOf, IsDecidedAt, denominator_of, shown}
use Rattle.pivot_closing.specs.Pivoted.{rounding_limit}
use Rattle.pivot_closing.proofs.Rounding.{printed-le-cost}

-- ---- values
-- a value of either kind is at least the value V
value_below : (exact : Bool) (instance : Instance) (node : Node) (table : Table) (v : ℤ) → IsValueOf exact instance node table v
    → (w : ℤ) × (IsNodeValue instance node table w × (w ≤ℤ v))
value_below false instance node table v is = (v, (is, le_refl v))
value_below true instance node table v is =
    let own : IsNodeValue instance node table (node_total instance table is.unit_value) =
    record { unit_value = is.unit_value; units = is.units; total = refl } in
    (node_total instance table is.unit_value, (own, exact_values_reach instance node table (node_total instance table is.unit_value) v own is))

-- over plain numbers: K times the cost x/q is q*w, v is at least w, and c is at most n more than the cost; then c is at most n more than floor(v/K)
above_floor : (q : ℕ) (k c w v x b : ℤ) (n : ℕ) → 0 < q → pos 0 <ℤ k → (pos q *ℤ c) ≤ℤ (x +ℤ pos q *ℤ pos n) → pos q *ℤ w ≡ k *ℤ x → w ≤ℤ v
    → IsFloor v k b → (c -ℤ b) ≤ℤ pos n
above_floor q k c w v x b n some positive rounded worth below floor =
    let least = mul-le-mul_left k (pos q *ℤ (c -ℤ pos n)) x (omega (arith, linear)) (omega (arith, linear, rounded, mul-sub (pos q) c (pos n))) in
    let more = mul-le-mul_left (pos q) w v (pos_nonneg q) below in
    let turned : pos q *ℤ ((c -ℤ pos n) *ℤ k) ≡ k *ℤ (pos q *ℤ (c -ℤ pos n)) =
    ap (λ z. pos q *ℤ z) (mul_comm (c -ℤ pos n) k) ∙ mul_left_comm (pos q) k (c -ℤ pos n) in
    let whole : ((c -ℤ pos n) *ℤ k) ≤ℤ v = le_from_mul (pos q) _ _ (omega (arith, linear)) (omega (arith, linear, least, more, turned, worth)) in
    let most = IsFloor-greatest v k b (c -ℤ pos n) positive floor whole in
    omega (arith, linear, most)

-- ---- start costs
-- on regular rows the least category costs what the last stop lets a start cost
category_least : (periods : ℕ) (unit : Thermal) (on : Commitment) (t category : ℕ) → IsLawfulThermal unit → AreStartsRegular unit
    → IsTrue (is_allowed periods unit on) → t < periods → HasLeastCategory unit on t category → category_cost unit category ≡ least_start_cost unit on t
category_least periods unit on t category lawful rows allowed within least = ⊎_elim
    (λ (start : IsTrue (starts unit on t)).
    let own = least.start start in
    let law = regular periods unit on t lawful rows allowed within start in
    let low : sigma unit (last_stop unit on t) t ≤ℤ category_cost unit category = law.least category own.allowed in
    let high : category_cost unit category ≤ℤ sigma unit (last_stop unit on t) t =
    subst (λ z. category_cost unit category ≤ℤ z) (sym law.reached) (own.cheapest law.category (numbered law.category law.allowed) law.allowed) in
    le_antisymm _ _ high low ∙ sym (cond-true (starts unit on t) (sigma unit (last_stop unit on t) t) (pos 0) start))
    (λ (none : starts unit on t ≡ false).
    ap (category_cost unit) (least.none none) ∙ sym (cond-false (starts unit on t) (sigma unit (last_stop unit on t) t) (pos 0) none))
    (cases_Bool (starts unit on t))
  where
    numbered : (s : ℕ) → IsTrue (is_category_allowed unit on s t) → 0 < s
    numbered zero h = absurd (true≢false (sym h))
    numbered (suc s) h = omega arith

-- ---- the best schedule of a commitment
module _ (instance : Instance) (patterns : List Pattern) (lawful : IsLawfulInstance instance) (allowed : AreAllowed instance patterns) where
  module _ (printed : Printed) (table : Table) (best : IsBestOf instance patterns printed table)
      (rows : (g : ℕ) → g < thermal_count instance → AreStartsRegular (thermal_unit instance g)) where
    abbrev q : ℕ
    q = denominator_of instance printed

    abbrev x : Schedule
    x = shown instance printed

    -- its categories cost no more than the least start costs
    starts_same : (g t : ℕ) → g < thermal_count instance → t < instance.periods
        → category_cost (thermal_unit instance g) (cell_at printed g t).category ≡ least_start_cost (thermal_unit instance g) (λ s. (cell_at printed g s).on) t
    starts_same g t hg ht =
        let unit = thermal_unit instance g in
        let below : SameBelow instance.periods (commitment_at patterns g) (λ s. (cell_at printed g s).on) = record { same = λ s hs. sym (best.on g s hg hs) } in
        category_least instance.periods unit (commitment_at patterns g) t (cell_at printed g t).category (lawful.thermal g hg) (rows g hg) (allowed.allowed g hg) ht
        (best.category g t hg ht)
        ∙ (λ i. if starts-same instance.periods unit (commitment_at patterns g) (λ s. (cell_at printed g s).on) below t ht i
        then sigma-same instance.periods unit (commitment_at patterns g) (λ s. (cell_at printed g s).on) below t (omega arith) i else pos 0)

    same_cost : cost instance q x ≡ cost_by_least_starts instance q x
    same_cost =
        let units = sum_below-same (thermal_count instance) _ _ (λ g hg. sum_below-same instance.periods (cell_cost q (thermal_unit instance g) (x.thermal g))
        (cell_cost_by_least_starts q (thermal_unit instance g) (x.thermal g)) (λ t ht.
        ap (λ z. production_cost (thermal_unit instance g) (x.thermal g) t +ℤ pos q *ℤ z) (starts_same g t hg ht))) in
        ap (λ z. z +ℤ sum_below instance.periods (shortage_cost instance x)) units

    -- the printed cost is within a gap whose tolerance covers the roundings
    pub best_within : (gap : ℕ) (exact : Bool) (node : Node) (v : ℤ) → IsDecidedAt instance patterns node → IsValueOf exact instance node table v
        → rounding_limit instance ≤ tolerance_of (printed_cost instance printed) gap
        → is_within_gap (printed_cost instance printed) (Some (bound_of v table.k)) gap ≡ true
    best_within gap exact node v decided is wide =
        let own = value_below exact instance node table v is in
        let worth = best.exact node own.0 decided own.1.0 ∙ ap (λ z. table.k *ℤ z) (sym same_cost) in
        let rounded = printed-le-cost instance printed lawful best.obeys in
        let most = above_floor q table.k (printed_cost instance printed) own.0 v (cost instance q x) (bound_of v table.k)
        (thermal_count instance * instance.periods + 2 * instance.periods) (omega (arith, best.obeys.denominator)) best.scale rounded worth own.1.1
        (IsFloor-int_div_euclid v table.k best.scale) in
        le-int_le (printed_cost instance printed -ℤ bound_of v table.k) (pos (tolerance_of (printed_cost instance printed) gap)) (omega (arith, linear, most, wide))

  -- ---- a ray
  pub ray_positive : (table : Table) (exact : Bool) (node : Node) (v : ℤ) → IsRayOf instance patterns table → IsDecidedAt instance patterns node
      → IsValueOf exact instance node table v → pos 0 <ℤ v
  ray_positive table exact node v ray decided is =
      let own = value_below exact instance node table v is in
      let above = ray.above node own.0 decided own.1.0 in
      omega (arith, linear, above, own.1.1)
