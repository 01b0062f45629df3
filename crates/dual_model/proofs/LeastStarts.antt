-- Least start costs in place of the categories': each is at most its category's, so a schedule that obeys costs no less
-- than it does by them.
use Rattle.std.proofs.Common.{◌≡◌, ℕ, ◌<◌, cond, sym, ap, ◌∙◌, arith, ℤ, pos, ◌*ℤ◌, ◌≤ℤ◌, IsTrue, Bool, true, false}
use Rattle.std.proofs.lemmas.Bool.{cond-true, cond-false, eqb-true}
use Rattle.uc_model.specs.Prelude.{Commitment, category_cost, category_holds_at, Schedule, thermal_unit, thermal_count, cell_cost, unit_cost, cost, Category, Obeys}
use Rattle.uc_model.proofs.Common.{linear, scale-le-scale, mul_left_comm, mul-zero, sum_below-le, rule_at, sigma-le-allowed}
use Rattle.dual_model.specs.Prelude.{Instance, Thermal, least_start_cost, cell_cost_by_least_starts, unit_cost_by_least_starts, cost_by_least_starts}

-- ---- a period
-- K times the least start cost, as values have it, over q
pub start_scaled : (k q : ℤ) (start : Bool) (least : ℤ) → q *ℤ cond start (k *ℤ least) (pos 0) ≡ k *ℤ (q *ℤ cond start least (pos 0))
start_scaled k q true least = mul_left_comm q k least
start_scaled k q false least = mul-zero q ∙ sym (ap (λ z. k *ℤ z) (mul-zero q) ∙ mul-zero k)

-- it is at most what the category costs
pub least_start-category : (unit : Thermal) (on : Commitment) (category : ℕ → ℕ) (t : ℕ)
    → IsTrue (category_holds_at unit on category t) → least_start_cost unit on t ≤ℤ category_cost unit (category t)
least_start-category unit on category t holds = grind (arith, linear, cond-true, sigma-le-allowed, eqb-true, cond-false, holds)

-- ---- a schedule that obeys
module _ (instance : Instance) (q : ℕ) (x : Schedule) (obeys : Obeys instance q x) where
  cell_by_least : (g t : ℕ) → g < thermal_count instance → t < instance.periods
      → cell_cost_by_least_starts q (thermal_unit instance g) (x.thermal g) t ≤ℤ cell_cost q (thermal_unit instance g) (x.thermal g) t
  cell_by_least g t hg ht =
      let row = x.thermal g in
      let below = scale-le-scale q _ _
      (least_start-category (thermal_unit instance g) row.on row.category t (rule_at instance q x obeys Category g t hg ht)) in
      omega (arith, linear, below)

  -- costs no less than by them
  pub cost_by_least-cost : cost_by_least_starts instance q x ≤ℤ cost instance q x
  cost_by_least-cost =
      let units = sum_below-le (thermal_count instance)
      (λ g. unit_cost_by_least_starts instance.periods q (thermal_unit instance g) (x.thermal g))
      (λ g. unit_cost instance.periods q (thermal_unit instance g) (x.thermal g))
      (λ g hg. sum_below-le instance.periods (cell_cost_by_least_starts q (thermal_unit instance g) (x.thermal g))
      (cell_cost q (thermal_unit instance g) (x.thermal g)) (λ t ht. cell_by_least g t hg ht)) in
      omega (arith, linear, units)
