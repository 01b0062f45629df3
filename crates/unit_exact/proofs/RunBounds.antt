-- What no run whose last hour is in a period costs less than.
use Rattle.std.proofs.Common.{◌≡◌, ℕ, suc, ◌-◌, ◌≤◌, ◌==◌, Bool, true, false, true≢false, refl, sym, ap, ◌∙◌, arith, ℤ, pos, ◌+ℤ◌, ◌-ℤ◌, ◌*ℤ◌, ◌≤ℤ◌, neg_ℤ, nat_lt, Option, Some, if◌then◌else◌}
use Rattle.std.specs.Int.{int_min}
use Rattle.uc_model.proofs.Common.{linear, mul-le-mul_left, int_min_left, int_min_right}
use Rattle.dual_model.specs.Prelude.{greatest_output, total_of}
use Rattle.uc_model.specs.Prelude.{cell_cap}
use Rattle.dual_model.proofs.Optimum.{total_of-parts}
use Rattle.step_functions.specs.Functions.{Steps, IsPlace, value_at}
use Rattle.unit_runs.specs.CostThrough.{cost_through, hour_after, least_between, output_cost, reserve_cost, run_cost}
use Rattle.unit_runs.proofs.Costs.{least_between-reached}
use Rattle.unit_exact.specs.inside.Running.{least_ending}
use Rattle.unit_exact.specs.inside.Problems.{Table, Thermal}
use Rattle.hull_function.proofs.Represented.{output-is, output-of}
use Rattle.hull_function.specs.Hours.{IsCostsOf, IsHourAt, IsSizedHour}
use Rattle.hull_function.specs.Hulls.{IsHull}
use Rattle.hull_function.specs.declared.hour.Hour.{Hour}
use Rattle.unit_exact.proofs.HourSteps.{none-after}
use Rattle.unit_exact.proofs.RunSteps.{run-ends, through-last}

-- the least at the end is one of the costs
ending-reached : (periods k : ℕ) (unit : Thermal) (cost : ℤ → Option ℤ) (v : ℤ) → least_ending periods unit k cost ≡ Some v
    → (p : ℤ) × (cost p ≡ Some v)
ending-reached periods k unit cost v e = by (nat_lt k periods) e
  where
    by : (b : Bool) → (if b then least_between (neg_ℤ unit.ru) unit.rd cost else least_between (pos 0) (greatest_output unit.points) cost) ≡ Some v
        → (p : ℤ) × (cost p ≡ Some v)
    by true d = let found = least_between-reached (neg_ℤ unit.ru) unit.rd cost v d in (found.at, found.is)
    by false d = let found = least_between-reached (pos 0) (greatest_output unit.points) cost v d in (found.at, found.is)

-- a place at which the function plus its slope is least, and a value that the costs before are at least
module _ (table : Table) (unit : Thermal) (t : ℕ) (hull f : Steps) (hour : Hour) (output least : ℤ) (is_hull : IsHull unit.points table.k hull)
    (at : IsHourAt table unit t hour) (sized : IsSizedHour hour) (before : ℤ → Option ℤ) (costs : IsCostsOf true f before)
    (low : (p : ℤ) → IsPlace f p → least ≤ℤ value_at f p)
    (best : (p : ℤ) → IsPlace hull p → (value_at hull output +ℤ hour.price *ℤ output) ≤ℤ (value_at hull p +ℤ hour.price *ℤ p)) where
  reserve-bound : (q : ℤ) → neg_ℤ (hour.worth *ℤ hour.cap) ≤ℤ reserve_cost table unit t hour.cap q
  reserve-bound q =
      let worth = ap (λ z. z *ℤ int_min hour.cap (q +ℤ unit.ru)) at.worth in
      let less = mul-le-mul_left hour.worth (int_min hour.cap (q +ℤ unit.ru)) hour.cap sized.worth.0 (int_min_left hour.cap (q +ℤ unit.ru)) in
      omega (arith, linear, worth, less)

  behind-bound : (a b v : ℤ) → least_between a b (λ q. total_of (before q) (Some (reserve_cost table unit t hour.cap q))) ≡ Some v
      → (least -ℤ hour.worth *ℤ hour.cap) ≤ℤ v
  behind-bound a b v e =
      let found = least_between-reached a b (λ q. total_of (before q) (Some (reserve_cost table unit t hour.cap q))) v e in
      let q = found.at in
      let parts = total_of-parts (before q) (Some (reserve_cost table unit t hour.cap q)) v found.is in
      let place = (costs.outside q parts.first parts.first_is).1 in
      let own = costs.inside refl q place in
      let value : parts.first ≡ value_at f q = (let first = parts.first_is in cc) in
      let reserve : parts.second ≡ reserve_cost table unit t hour.cap q = (let second = parts.second_is in cc) in
      let total = parts.total in
      let bound = low q place in
      let earned = reserve-bound q in
      omega (arith, linear, value, reserve, total, bound, earned)

  output-bound : (p : ℤ) → pos 0 ≤ℤ p → p ≤ℤ greatest_output unit.points
      → (value_at hull output +ℤ hour.price *ℤ output +ℤ hour.fixed) ≤ℤ output_cost table unit t p
  output-bound p from to =
      let first = is_hull.first in
      let last = is_hull.last in
      let place : IsPlace hull p = record { low = omega (arith, linear, first, from); high = omega (arith, linear, last, to) } in
      let less = best p place in
      let same = output-is table unit t hull hour p is_hull at from to in
      omega (arith, linear, less, same)

  hour-bound : (p v : ℤ) → hour_after table unit t hour.cap before p ≡ Some v
      → (least +ℤ (value_at hull output +ℤ hour.price *ℤ output -ℤ hour.worth *ℤ hour.cap +ℤ hour.fixed)) ≤ℤ v
  hour-bound p v e =
      let own = output-of table unit t hour.cap (λ z. least_between (z -ℤ unit.ru) (z +ℤ unit.rd) (λ q. total_of (before q) (Some (reserve_cost table unit t hour.cap q)))) p v e in
      let high = own.high in
      let wide = int_min_right hour.cap (greatest_output unit.points) in
      let less = output-bound p own.low (omega (arith, linear, high, wide)) in
      let rest = behind-bound (p -ℤ unit.ru) (p +ℤ unit.rd) own.other own.is in
      let total = own.total in
      omega (arith, linear, less, rest, total)

  pub run-bound : (periods from : ℕ) (v : ℤ) → from ≤ t → hour.cap ≡ cell_cap periods unit t (t == from) true
      → before ≡ cost_through periods table unit from (suc (t - from)) (t - from)
      → run_cost periods table unit from (suc (t - from)) ≡ Some v
      → (least +ℤ (value_at hull output +ℤ hour.price *ℤ output -ℤ hour.worth *ℤ hour.cap +ℤ hour.fixed)) ≤ℤ v
  run-bound periods from v order cap is e =
      let hours : hour_after table unit t hour.cap before ≡ cost_through periods table unit from (suc (t - from)) (suc (t - from)) =
      ap (hour_after table unit t hour.cap) is ∙ through-last periods table unit from t hour.cap order cap in
      let ends = ap (least_ending periods unit (suc t)) hours ∙ run-ends periods table unit from t order ∙ e in
      let found = ending-reached periods (suc t) unit (hour_after table unit t hour.cap before) v ends in
      hour-bound found.0 v found.1

-- where no hour has a cost before it, there is none
pub run-none-alive : (periods : ℕ) (table : Table) (unit : Thermal) (from t : ℕ) (cap : ℤ) (f : Steps) (v : ℤ) → from ≤ t
    → cap ≡ cell_cap periods unit t (t == from) true
    → IsCostsOf false f (cost_through periods table unit from (suc (t - from)) (t - from))
    → run_cost periods table unit from (suc (t - from)) ≡ Some v → ⊥
run-none-alive periods table unit from t cap f v order is costs e =
    let before : ℤ → Option ℤ = cost_through periods table unit from (suc (t - from)) (t - from) in
    let ends = ap (least_ending periods unit (suc t)) (through-last periods table unit from t cap order is) ∙ run-ends periods table unit from t order ∙ e in
    let found = ending-reached periods (suc t) unit (hour_after table unit t cap before) v ends in
    absurd (true≢false (sym ((none-after f f before table unit t cap costs).outside found.0 v found.1).0))
