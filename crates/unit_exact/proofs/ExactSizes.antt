-- How large the value of a pattern by its runs is: each of its hours and starts adds a bounded amount.
use Rattle.std.proofs.Common.{◌≡◌, ℕ, zero, suc, ◌+◌, ◌*◌, ◌^◌, ◌<◌, ◌≤◌, Bool, true, false, cond, sym, ap, subst, arith, ℤ, pos, ◌+ℤ◌, ◌-ℤ◌, ◌*ℤ◌, neg_ℤ, ◌≤ℤ◌, unsigned_abs, IsTrue, if◌then◌else◌}
use Rattle.std.specs.Int.{int_max, int_min}
use Rattle.std.proofs.lemmas.Int.{ints, clamps}
use Rattle.uc_model.specs.Prelude.{Commitment, start_reduction, starts, last_stop, sigma, bit, sum_below}
use Rattle.uc_model.specs.declared.limits.TheConstants.{MAX_COST}
use Rattle.uc_model.proofs.Common.{linear, mul-one, mul-zero, abs_add, abs_mul, abs_sub, sigma-size, sum_below-const, sum_below-le}
use Rattle.dual_model.specs.Prelude.{greatest_output, mu_at, pi_at}
use Rattle.dual_model.specs.ExactValue.{floored_cost}
use Rattle.step_functions.specs.Functions.{Steps}
use Rattle.unit_runs.specs.Patterns.{EachRun, IsValueByRuns, begins, run_hours, start_costs, sum_over_runs}
use Rattle.unit_runs.specs.Runs.{IsLeastRunValue, IsTrajectory, Trajectory, hour_value}
use Rattle.unit_runs.proofs.Hours.{run-within}
use Rattle.unit_runs.proofs.RunSums.{sum_of_runs, sum_over_runs-le}
use Rattle.unit_exact.specs.Sizes.{MAX_EXACT}
use Rattle.unit_exact.specs.inside.Problems.{Table, Thermal}
use Rattle.hull_function.proofs.HullFunction.{hull-function}
use Rattle.hull_function.specs.Hulls.{IsHull, MAX_HULL}
use Rattle.hull_function.specs.Problems.{MAX_POWER, IsLawfulProblem, MAX_PRICE}
use Rattle.hull_function.specs.Hours.{MAX_HOUR}

-- no number is larger in size
abbrev IsAtMost : ℕ → ℤ → Type 0
IsAtMost m z = (neg_ℤ (pos m) ≤ℤ z) × (z ≤ℤ pos m)

to_parts : (z : ℤ) (m : ℕ) → unsigned_abs z ≤ m → IsAtMost m z
to_parts z m h = (omega (arith, ints), omega (arith, ints))

from_parts : (z : ℤ) (m : ℕ) → IsAtMost m z → unsigned_abs z ≤ m
from_parts z m h = let low = h.0 in let high = h.1 in omega (arith, ints)

-- ---- an hour
cap-most : (full reduction other : ℤ) (b : Bool) → pos 0 ≤ℤ reduction → int_min (full -ℤ reduction *ℤ bit b) other ≤ℤ full
cap-most full reduction other true h = let one = mul-one reduction in omega (arith, ints, clamps)
cap-most full reduction other false h = let none = mul-zero reduction in omega (arith, ints, clamps)

module _ (periods : ℕ) (table : Table) (unit : Thermal) (lawful : IsLawfulProblem periods table unit) (hull : Steps) (is_hull : IsHull unit.points table.k hull) where
  output-small : (p : ℕ) → pos p ≤ℤ greatest_output unit.points → p ≤ 2 * MAX_POWER
  output-small p h =
      let most = (hull-function unit table.k hull lawful.unit_is is_hull).last.1 in
      let last = is_hull.last in
      omega (arith, ints)

  hour-small : (t p r : ℕ) → t < periods → pos p ≤ℤ greatest_output unit.points → r ≤ 2 * MAX_POWER → unsigned_abs (hour_value table unit t p r) ≤ MAX_HOUR
  hour-small t p r l wide small =
      let first = is_hull.first in
      let last = is_hull.last in
      let begins : hull.first ≤ℤ pos p = omega (arith, ints) in
      let cost : unsigned_abs (floored_cost unit.points table.k 1 p) ≤ MAX_HULL =
      subst (λ z. unsigned_abs z ≤ MAX_HULL) (is_hull.value p wide) (is_hull.size (pos p) (record { low = begins; high = subst (λ z. pos p ≤ℤ z) (sym last) wide })) in
      let few = output-small p wide in
      let output = abs_add (pos p) unit.pmin (2 * MAX_POWER) MAX_POWER (omega (arith, ints)) lawful.unit_is.minimum.power in
      let paid = abs_mul (pi_at table t) (pos p +ℤ unit.pmin) MAX_PRICE (2 * MAX_POWER + MAX_POWER) (lawful.demand_price t l) output in
      let earned = abs_mul (mu_at table t) (pos r) MAX_PRICE (2 * MAX_POWER) (lawful.reserve_price t l) (omega (arith, ints)) in
      let part = abs_sub (floored_cost unit.points table.k 1 p) (pi_at table t *ℤ (pos p +ℤ unit.pmin)) MAX_HULL (MAX_PRICE * (2 * MAX_POWER + MAX_POWER)) cost paid in
      let whole = abs_sub (floored_cost unit.points table.k 1 p -ℤ pi_at table t *ℤ (pos p +ℤ unit.pmin)) (mu_at table t *ℤ pos r)
      (MAX_HULL + MAX_PRICE * (2 * MAX_POWER + MAX_POWER)) (MAX_PRICE * (2 * MAX_POWER)) part earned in
      omega (arith, whole)

  -- ---- a run, of which each hour is at most so large
  reserve-small : (from hours : ℕ) (x : Trajectory) (i : ℕ) → IsTrajectory periods unit from hours x → i < hours → x.r i ≤ 2 * MAX_POWER
  reserve-small from hours x i is l =
      let cap = (is.each i l).cap in
      let most = cap-most (unit.pmax -ℤ unit.pmin) (start_reduction unit) _ _ (reduction (unit.pmax -ℤ unit.su)) in
      bounded (x.p i) (x.r i) _ unit.pmax unit.pmin lawful.unit_is.maximum.power lawful.unit_is.minimum.power cap most
    where
      reduction : (z : ℤ) → pos 0 ≤ℤ int_max z (pos 0)
      reduction z = omega (arith, ints, clamps)

      bounded : (p r : ℕ) (limit most least : ℤ) → unsigned_abs most ≤ MAX_POWER → unsigned_abs least ≤ MAX_POWER → (pos p +ℤ pos r) ≤ℤ limit
          → limit ≤ℤ (most -ℤ least) → r ≤ 2 * MAX_POWER
      bounded p r limit most least h k cap full = omega (arith, ints)

  run-most : (from hours : ℕ) (v : ℤ) → from + hours ≤ periods → IsLeastRunValue periods table unit from hours v
      → (sum_below hours (λ i. neg_ℤ (pos MAX_HOUR)) ≤ℤ v) × (v ≤ℤ sum_below hours (λ i. pos MAX_HOUR))
  run-most from hours v l is =
      let x = is.x in
      let hour : (i : ℕ) → i < hours → IsAtMost MAX_HOUR (hour_value table unit (from + i) (x.p i) (x.r i)) =
      (λ i h. to_parts _ MAX_HOUR (hour-small (from + i) (x.p i) (x.r i) (omega arith) (is.is_trajectory.each i h).width (reserve-small from hours x i is.is_trajectory h))) in
      let low = sum_below-le hours (λ i. neg_ℤ (pos MAX_HOUR)) (λ i. hour_value table unit (from + i) (x.p i) (x.r i)) (λ i h. (hour i h).0) in
      let high = sum_below-le hours (λ i. hour_value table unit (from + i) (x.p i) (x.r i)) (λ i. pos MAX_HOUR) (λ i h. (hour i h).1) in
      let reached = is.reached in
      (omega (arith, linear, low, reached), omega (arith, linear, high, reached))

  -- ---- the whole
  runs-small : (on : Commitment) (value : ℕ → ℕ → ℤ) → EachRun periods unit on (λ from hours. IsLeastRunValue periods table unit from hours (value from hours))
      → IsAtMost (periods * MAX_HOUR) (sum_over_runs periods unit on value)
  runs-small on value runs =
      let some : 0 < periods = omega (arith, lawful.periods_are.0) in
      let part = λ (t : ℕ) (l : t < periods) (begin : IsTrue (begins unit on t)). run-most t (run_hours periods on t) (value t (run_hours periods on t)) (run-within periods on t l) (runs t l begin) in
      let low = sum_over_runs-le periods unit on (λ from hours. sum_below hours (λ i. neg_ℤ (pos MAX_HOUR))) value (λ t l begin. (part t l begin).0) in
      let high = sum_over_runs-le periods unit on value (λ from hours. sum_below hours (λ i. pos MAX_HOUR)) (λ t l begin. (part t l begin).1) in
      let low_all = sum_of_runs periods unit on (λ t. neg_ℤ (pos MAX_HOUR)) some in
      let high_all = sum_of_runs periods unit on (λ t. pos MAX_HOUR) some in
      let low_const = sum_below-le periods (λ t. neg_ℤ (pos MAX_HOUR)) (λ t. cond (on t) (neg_ℤ (pos MAX_HOUR)) (pos 0)) (λ t l. least (on t)) in
      let high_const = sum_below-le periods (λ t. cond (on t) (pos MAX_HOUR) (pos 0)) (λ t. pos MAX_HOUR) (λ t l. most (on t)) in
      let low_sum = sum_below-const periods (neg_ℤ (pos MAX_HOUR)) in
      let high_sum = sum_below-const periods (pos MAX_HOUR) in
      let low_product : pos periods *ℤ neg_ℤ (pos MAX_HOUR) ≡ neg_ℤ (pos (periods * MAX_HOUR)) = omega (arith, ints) in
      let high_product : pos periods *ℤ pos MAX_HOUR ≡ pos (periods * MAX_HOUR) = omega (arith, ints) in (
        omega (arith, linear, low, low_all, low_const, low_sum, low_product),
        omega (arith, linear, high, high_all, high_const, high_sum, high_product),
      )
    where
      least : (b : Bool) → neg_ℤ (pos MAX_HOUR) ≤ℤ cond b (neg_ℤ (pos MAX_HOUR)) (pos 0)
      least true = omega (arith, ints)
      least false = omega (arith, ints)

      most : (b : Bool) → cond b (pos MAX_HOUR) (pos 0) ≤ℤ pos MAX_HOUR
      most true = omega (arith, ints)
      most false = omega (arith, ints)

  start-small : (on : Commitment) (t : ℕ) → unsigned_abs (if starts unit on t then table.k *ℤ sigma unit (last_stop unit on t) t else pos 0) ≤ MAX_HOUR
  start-small on t = where_it_is (starts unit on t) _ start
    where
      start : unsigned_abs (table.k *ℤ sigma unit (last_stop unit on t) t) ≤ MAX_HOUR
      start =
          let scale : unsigned_abs table.k ≤ 10 ^ 9 = omega (arith, ints, lawful.scale.low, lawful.scale.high) in
          let whole = abs_mul table.k (sigma unit (last_stop unit on t) t) (10 ^ 9) MAX_COST scale (sigma-size unit lawful.unit_is (last_stop unit on t) t) in
          omega (arith, whole)

      where_it_is : (b : Bool) (z : ℤ) → unsigned_abs z ≤ MAX_HOUR → unsigned_abs (if b then z else pos 0) ≤ MAX_HOUR
      where_it_is true z h = h
      where_it_is false z h = omega arith

  sum-small : (n m : ℕ) (f : ℕ → ℤ) → ((k : ℕ) → unsigned_abs (f k) ≤ m) → unsigned_abs (sum_below n f) ≤ n * m
  sum-small zero m f h = omega arith
  sum-small (suc n) m f h =
      let rest = abs_add (sum_below n f) (f n) (n * m) m (sum-small n m f h) (h n) in
      omega (arith, rest)

  pub value-small : (on : Commitment) (v : ℤ) → IsValueByRuns periods table unit on v → unsigned_abs v ≤ MAX_EXACT
  value-small on v is =
      let runs = from_parts (sum_over_runs periods unit on is.value) (periods * MAX_HOUR) (runs-small on is.value is.runs) in
      let begun = sum-small periods MAX_HOUR (λ t. if starts unit on t then table.k *ℤ sigma unit (last_stop unit on t) t else pos 0) (start-small on) in
      let whole = abs_add (sum_over_runs periods unit on is.value) (start_costs periods table unit on) (periods * MAX_HOUR) (periods * MAX_HOUR) runs begun in
      let total = ap unsigned_abs is.total in
      omega (arith, whole, total, lawful.periods_are.1)
