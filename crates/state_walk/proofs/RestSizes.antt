-- What is left of a run costs little beside 128 bits, and there are costs at outputs alone, or within a ramp of them.
use Rattle.std.proofs.Common.{◌≡◌, ℕ, zero, suc, ◌+◌, ◌*◌, ◌<◌, ◌≤◌, Bool, true, false, not, ◌&&◌, ◌==◌, nat_lt, sym, subst, arith, ℤ, pos, ◌+ℤ◌, ◌-ℤ◌, ◌*ℤ◌, neg_ℤ, ◌≤ℤ◌, int_le, unsigned_abs, Option, Some, if◌then◌else◌}
use Rattle.std.specs.Int.{int_max, int_min}
use Rattle.std.proofs.lemmas.Int.{ints, clamps}
use Rattle.std.proofs.lemmas.Bool.{and_parts}
use Rattle.uc_model.specs.Prelude.{IsLimit, bit, start_reduction, stop_reduction, cell_cap}
use Rattle.uc_model.proofs.Common.{linear, mul-one, mul-zero, abs_mul, int_le-true, int_min_right, abs_is}
use Rattle.dual_model.specs.Prelude.{mu_at, pi_at, greatest_output}
use Rattle.dual_model.specs.ExactValue.{floored_cost}
use Rattle.dual_model.proofs.Optimum.{total_of-parts}
use Rattle.hull_function.specs.Hulls.{MAX_HULL}
use Rattle.hull_function.proofs.HullFunction.{hull-function}
use Rattle.unit_runs.specs.CostThrough.{least_between, output_cost, reserve_cost, reserve_worth}
use Rattle.unit_runs.proofs.Costs.{least_between-reached}
use Rattle.state_walk.specs.inside.CostToEnd.{cost_to_end, highest_end, hours_after, is_between, lowest_end}
use Rattle.state_walk.specs.inside.Problems.{IsLawful, Steps, Table, Thermal, MAX_POWER, MAX_PRICE}
use Rattle.hull_function.proofs.Represented.{output-of, through}
use Rattle.hull_function.specs.Hours.{with_output, MAX_HOUR, MAX_OUTPUT_COST}

-- an hour's reserve costs at most this
abbrev pub MAX_RESERVE_COST : ℕ
MAX_RESERVE_COST = MAX_PRICE * (4 * MAX_POWER)

module _ (periods : ℕ) (table : Table) (unit : Thermal) (hull : Steps) (lawful : IsLawful periods table unit hull) where
  -- ---- numbers of the unit
  pub width-size : (pos 0 ≤ℤ greatest_output unit.points) × (greatest_output unit.points ≤ℤ pos (2 * MAX_POWER))
  width-size =
      subst (λ z. (pos 0 ≤ℤ z) × (z ≤ℤ pos (2 * MAX_POWER))) lawful.hull_is.function.last (hull-function unit table.k hull lawful.problem.unit_is lawful.hull_is.function).last

  left_of : (full reduction : ℤ) (b : Bool) → unsigned_abs full ≤ MAX_POWER → unsigned_abs (full -ℤ reduction) ≤ MAX_POWER
      → unsigned_abs (full -ℤ reduction *ℤ bit b) ≤ MAX_POWER
  left_of full reduction true h k = let one = mul-one reduction in subst (λ z. unsigned_abs (full -ℤ z) ≤ MAX_POWER) (sym one) k
  left_of full reduction false h k =
      let none = mul-zero reduction in
      let same : full -ℤ reduction *ℤ pos 0 ≡ full = omega (arith, linear, none) in
      subst (λ z. unsigned_abs z ≤ MAX_POWER) (sym same) h

  pub limit-size : (t : ℕ) (first last : Bool) → unsigned_abs (cell_cap periods unit t first last) ≤ MAX_POWER
  limit-size t first last =
      least (full -ℤ start_reduction unit *ℤ bit started) (full -ℤ stop_reduction unit *ℤ bit followed)
      (left_of full (start_reduction unit) started range (limited unit.pmax unit.pmin unit.su lawful.problem.unit_is.maximum lawful.problem.unit_is.minimum lawful.problem.unit_is.start_limit))
      (left_of full (stop_reduction unit) followed range (limited unit.pmax unit.pmin unit.sd lawful.problem.unit_is.maximum lawful.problem.unit_is.minimum lawful.problem.unit_is.stop_limit))
    where
      full : ℤ
      full = unit.pmax -ℤ unit.pmin

      started : Bool
      started = first && not (unit.on0 && (t == 0))

      followed : Bool
      followed = last && nat_lt (suc t) periods

      range : unsigned_abs full ≤ MAX_POWER
      range = apart unit.pmax unit.pmin lawful.problem.unit_is.maximum lawful.problem.unit_is.minimum
        where
          apart : (high low : ℤ) → IsLimit high → IsLimit low → unsigned_abs (high -ℤ low) ≤ MAX_POWER
          apart high low h l =
              let a = h.low in
              let b = h.power in
              let c = l.low in
              let d = l.power in
              omega (arith, ints)

      limited : (high low limit : ℤ) → IsLimit high → IsLimit low → IsLimit limit → unsigned_abs (high -ℤ low -ℤ int_max (high -ℤ limit) (pos 0)) ≤ MAX_POWER
      limited high low limit h l m =
          let a = h.low in
          let b = h.power in
          let c = l.low in
          let d = l.power in
          let f = m.low in
          let g = m.power in
          omega (arith, ints, clamps)

      least : (a b : ℤ) → unsigned_abs a ≤ MAX_POWER → unsigned_abs b ≤ MAX_POWER → unsigned_abs (int_min a b) ≤ MAX_POWER
      least a b h k = omega (arith, ints, clamps)

  worth-size : (t : ℕ) → t < periods → unsigned_abs (reserve_worth table t) ≤ MAX_PRICE
  worth-size t l = above (mu_at table t) (lawful.problem.reserve_price t l)
    where
      above : (mu : ℤ) → unsigned_abs mu ≤ MAX_PRICE → unsigned_abs (int_max mu (pos 0)) ≤ MAX_PRICE
      above mu h = omega (arith, ints, clamps)

  -- ---- an hour
  pub output-size : (t : ℕ) (p : ℤ) → t < periods → pos 0 ≤ℤ p → p ≤ℤ greatest_output unit.points
      → unsigned_abs (output_cost table unit t p) ≤ MAX_OUTPUT_COST
  output-size t p l low high =
      let size = abs_is p low in
      let there = lawful.hull_is.function.value (unsigned_abs p) (omega (arith, linear, size, high)) in
      let first = lawful.hull_is.function.first in
      let last = lawful.hull_is.function.last in
      let small = lawful.hull_is.function.size (pos (unsigned_abs p)) (record { low = omega (arith, linear, first); high = omega (arith, linear, size, last, high) }) in
      let floored : unsigned_abs (floored_cost unit.points table.k 1 (unsigned_abs p)) ≤ MAX_HULL = subst (λ z. unsigned_abs z ≤ MAX_HULL) there small in
      let price = lawful.problem.demand_price t l in
      let worth = worth-size t l in
      let wide = width-size.1 in
      let paid = abs_mul (reserve_worth table t -ℤ pi_at table t) p (2 * MAX_PRICE) (2 * MAX_POWER) (apart (reserve_worth table t) (pi_at table t) worth price)
      (near p (greatest_output unit.points) low high wide) in
      let least = abs_mul (pi_at table t) unit.pmin MAX_PRICE MAX_POWER price lawful.problem.unit_is.minimum.power in
      sum (floored_cost unit.points table.k 1 (unsigned_abs p)) ((reserve_worth table t -ℤ pi_at table t) *ℤ p) (pi_at table t *ℤ unit.pmin) floored paid least
    where
      apart : (a b : ℤ) → unsigned_abs a ≤ MAX_PRICE → unsigned_abs b ≤ MAX_PRICE → unsigned_abs (a -ℤ b) ≤ 2 * MAX_PRICE
      apart a b h k = omega (arith, ints)

      near : (p w : ℤ) → pos 0 ≤ℤ p → p ≤ℤ w → w ≤ℤ pos (2 * MAX_POWER) → unsigned_abs p ≤ 2 * MAX_POWER
      near p w low high wide = omega (arith, ints)

      sum : (a b c : ℤ) → unsigned_abs a ≤ MAX_HULL → unsigned_abs b ≤ 2 * MAX_PRICE * (2 * MAX_POWER) → unsigned_abs c ≤ MAX_PRICE * MAX_POWER
          → unsigned_abs (a +ℤ b -ℤ c) ≤ MAX_OUTPUT_COST
      sum a b c h k m = omega (arith, ints)

  pub reserve-size : (t : ℕ) (cap q : ℤ) → t < periods → unsigned_abs cap ≤ MAX_POWER → unsigned_abs q ≤ 3 * MAX_POWER
      → unsigned_abs (reserve_cost table unit t cap q) ≤ MAX_RESERVE_COST
  reserve-size t cap q l small near =
      let most = least cap q unit.ru small near lawful.problem.unit_is.ramp_up.power in
      let product = abs_mul (reserve_worth table t) (int_min cap (q +ℤ unit.ru)) MAX_PRICE (4 * MAX_POWER) (worth-size t l) most in
      turned (reserve_worth table t *ℤ int_min cap (q +ℤ unit.ru)) product
    where
      least : (a q up : ℤ) → unsigned_abs a ≤ MAX_POWER → unsigned_abs q ≤ 3 * MAX_POWER → unsigned_abs up ≤ MAX_POWER
          → unsigned_abs (int_min a (q +ℤ up)) ≤ 4 * MAX_POWER
      least a q up h k m = omega (arith, ints, clamps)

      turned : (z : ℤ) → unsigned_abs z ≤ MAX_RESERVE_COST → unsigned_abs (neg_ℤ z) ≤ MAX_RESERVE_COST
      turned z h = omega (arith, ints)

  -- ---- the end
  pub ends-size : (t : ℕ) → (unsigned_abs (lowest_end periods unit t) ≤ 2 * MAX_POWER) × (unsigned_abs (highest_end periods unit t) ≤ 2 * MAX_POWER)
      × (lowest_end periods unit t ≤ℤ highest_end periods unit t)
  ends-size t = by (nat_lt t periods)
    where
      by : (b : Bool) → (unsigned_abs (if b then neg_ℤ unit.ru else pos 0) ≤ 2 * MAX_POWER)
          × (unsigned_abs (if b then unit.rd else greatest_output unit.points) ≤ 2 * MAX_POWER)
          × ((if b then neg_ℤ unit.ru else pos 0) ≤ℤ (if b then unit.rd else greatest_output unit.points))
      by true = ramps unit.ru unit.rd lawful.problem.unit_is.ramp_up lawful.problem.unit_is.ramp_down
        where
          ramps : (up down : ℤ) → IsLimit up → IsLimit down
              → (unsigned_abs (neg_ℤ up) ≤ 2 * MAX_POWER) × (unsigned_abs down ≤ 2 * MAX_POWER) × (neg_ℤ up ≤ℤ down)
          ramps up down h k =
              let a = h.low in
              let b = h.power in
              let c = k.low in
              let d = k.power in
              (omega (arith, ints), omega (arith, ints), omega (arith, ints))
      by false = wide (greatest_output unit.points) width-size.0 width-size.1
        where
          wide : (w : ℤ) → pos 0 ≤ℤ w → w ≤ℤ pos (2 * MAX_POWER) → (unsigned_abs (pos 0) ≤ 2 * MAX_POWER) × (unsigned_abs w ≤ 2 * MAX_POWER) × (pos 0 ≤ℤ w)
          wide w h k = (omega (arith, ints), omega (arith, ints), h)

  -- ---- the hours that are left
  pub record IsSmallRest (n : ℕ) (q v : ℤ) : Type 0 where
    pub cost : unsigned_abs v ≤ MAX_HOUR * n
    pub near : unsigned_abs q ≤ 3 * MAX_POWER

  pub record AreSmallHours (n : ℕ) (p v : ℤ) : Type 0 where
    pub cost : unsigned_abs v ≤ MAX_HOUR * n + MAX_OUTPUT_COST
    pub low : pos 0 ≤ℤ p
    pub high : p ≤ℤ pos (2 * MAX_POWER)

  hours_small : (n t : ℕ) (cap : ℤ) (behind : ℤ → Option ℤ) → t < periods → ((q v : ℤ) → behind q ≡ Some v → IsSmallRest n q v)
      → (p v : ℤ) → with_output table unit t cap behind p ≡ Some v → AreSmallHours n p v
  hours_small n t cap behind l small p v e =
      let own = output-of table unit t cap behind p v e in
      let low = own.low in
      let below = own.high in
      let right = int_min_right cap (greatest_output unit.points) in
      let high : p ≤ℤ greatest_output unit.points = omega (arith, linear, below, right) in
      let first = output-size t p l low high in
      let second = (small p own.other own.is).cost in
      let total = own.total in
      let wide = width-size.1 in
      record { cost = omega (arith, ints, first, second, total); low = low; high = omega (arith, linear, high, wide) }

  rest_small : (n t : ℕ) (cap : ℤ) (hours : ℤ → Option ℤ) → t < periods → unsigned_abs cap ≤ MAX_POWER
      → ((p v : ℤ) → hours p ≡ Some v → AreSmallHours n p v) → (q v : ℤ) → hours_after table unit t cap hours q ≡ Some v → IsSmallRest (suc n) q v
  rest_small n t cap hours l limit small q v e =
      let parts = total_of-parts (least_between (q -ℤ unit.rd) (q +ℤ unit.ru) hours) (Some (reserve_cost table unit t cap q)) v e in
      let reached = least_between-reached (q -ℤ unit.rd) (q +ℤ unit.ru) hours parts.first parts.first_is in
      let own : parts.second ≡ reserve_cost table unit t cap q = (let is = parts.second_is in cc) in
      let hour = small reached.at parts.first reached.is in
      let near = before reached.at q unit.rd unit.ru hour.low hour.high lawful.problem.unit_is.ramp_down lawful.problem.unit_is.ramp_up reached.from reached.to in
      let first = hour.cost in
      let second = subst (λ z. unsigned_abs z ≤ MAX_RESERVE_COST) (sym own) (reserve-size t cap q l limit near) in
      let total = parts.total in
      record { cost = omega (arith, ints, first, second, total); near = near }
    where
      before : (p q down up : ℤ) → pos 0 ≤ℤ p → p ≤ℤ pos (2 * MAX_POWER) → IsLimit down → IsLimit up → (q -ℤ down) ≤ℤ p → p ≤ℤ (q +ℤ up)
          → unsigned_abs q ≤ 3 * MAX_POWER
      before p q down up low high h k from to =
          let a = h.low in
          let b = h.power in
          let c = k.low in
          let d = k.power in
          omega (arith, ints)

  pub rest-size : (n t : ℕ) (first : Bool) → t + n ≤ periods → (q v : ℤ) → cost_to_end periods table unit n t first q ≡ Some v → IsSmallRest n q v
  rest-size zero t first l q v e =
      let found = through (is_between (lowest_end periods unit t) (highest_end periods unit t) q) (Some (pos 0)) v e in
      let tests = and_parts (int_le (lowest_end periods unit t) q) (int_le q (highest_end periods unit t)) found.0 in
      let none : v ≡ pos 0 = (let is = found.1 in cc) in
      let ends = ends-size t in
      record {
        cost = omega (arith, ints, none);
        near = between (lowest_end periods unit t) q (highest_end periods unit t) ends.0 ends.1 (int_le-true _ _ tests.0) (int_le-true _ _ tests.1);
      }
    where
      between : (a q b : ℤ) → unsigned_abs a ≤ 2 * MAX_POWER → unsigned_abs b ≤ 2 * MAX_POWER → a ≤ℤ q → q ≤ℤ b → unsigned_abs q ≤ 3 * MAX_POWER
      between a q b h k low high = omega (arith, ints)
  rest-size (suc n) t first l q v e =
      rest_small n t (cell_cap periods unit t first (n == 0)) _ (omega (arith, l)) (limit-size t first (n == 0))
      (hours_small n t (cell_cap periods unit t first (n == 0)) (cost_to_end periods table unit n (suc t) false) (omega (arith, l)) (rest-size n (suc t) false (omega (arith, l))))
      q v e

  pub hours-size : (n t : ℕ) (first : Bool) → t + n < periods → (p v : ℤ)
      → with_output table unit t (cell_cap periods unit t first (n == 0)) (cost_to_end periods table unit n (suc t) false) p ≡ Some v → AreSmallHours n p v
  hours-size n t first l =
      hours_small n t (cell_cap periods unit t first (n == 0)) (cost_to_end periods table unit n (suc t) false) (omega (arith, l))
      (rest-size n (suc t) false (omega (arith, l)))
