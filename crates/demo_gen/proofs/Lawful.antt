-- The instance of each seed is lawful, and its units may be on throughout.
use Rattle.std.proofs.Common.{ℕ, zero, suc, ◌+◌, ◌-◌, ◌*◌, ◌/◌, ◌<◌, ◌≤◌, [], ◌∷◌, refl, sym, subst, arith, rules, pos, ◌≤ℤ◌, ◌≡◌, All, IsTrue, true, slice_index_or}
use Rattle.std.specs.Int.{int_max}
use Rattle.std.proofs.lemmas.List.{get_or-replicate}
use Rattle.std.proofs.lemmas.List.Elements.{All-map, All-replicate, All-weaker}
use Rattle.std.proofs.lemmas.Nat.{mul-le}
use Rattle.uc_model.specs.Prelude.{IsCost, IsLawfulInstance, IsLawfulRenewable, IsLawfulThermal, IsLimit, IsPower, no_unit, renewable_maximum, is_allowed, on_during}
use Rattle.uc_model.specs.declared.limits.TheConstants.{MAX_TIME}
use Rattle.uc_model.proofs.Common.{highest-kept_on, linear, unpriced}
use Rattle.demo_gen.specs.Demo.{Numbers, Point, StartRow, Thermal, MayAllRun, demand_at, demo_instance, first_units, maximum_cost, middle_cost, millions, minimum_cost, minimum_sum, ramp_of, range_sum, percents, state_after, unit_numbers, unit_of}
use Rattle.demo_gen.specs.inside.Bounds.{IsSmall}
use Rattle.demo_gen.proofs.FirstUnits.{minimum-size, numbers_small, range-size, units-at, units-count}

-- ---- a unit

limit_is : (k : ℕ) → k ≤ 10000000 → IsLimit (millions k)
limit_is k h = record { low = omega (arith, linear); power = omega (arith, h) }

-- the costs of the points
pub costs_small : (n : Numbers) → IsSmall n → (minimum_cost n ≤ 2200) × (middle_cost n ≤ 6100) × (maximum_cost n ≤ 15900)
costs_small n small =
    let first : n.minimum * (n.low_cost + 5) ≤ 50 * 44 = mul-le n.minimum (n.low_cost + 5) 50 44 small.minimum (omega (arith, small.low_cost)) in
    let second : n.low_cost * (n.range / 2) ≤ 39 * 100 = mul-le n.low_cost (n.range / 2) 39 100 small.low_cost (omega (arith, small.range)) in
    let third : n.high_cost * (n.range - n.range / 2) ≤ 49 * 200 = mul-le n.high_cost (n.range - n.range / 2) 49 200 small.high_cost (omega (arith, small.range)) in
    (omega (arith, first), omega (arith, first, second), omega (arith, first, second, third))

-- a fact of each place of a list of two, and of one of three
two : {X : Type 0} (P : X → Type 0) (a b d : X) → P a → P b → (i : ℕ) → i < 2 → P (slice_index_or (a ∷ b ∷ []) i d)
two P a b d first second zero h = first
two P a b d first second (suc zero) h = second
two P a b d first second (suc (suc i)) h = absurd (omega (arith, h))

three : {X : Type 0} (P : X → Type 0) (a b c d : X) → P a → P b → P c → (i : ℕ) → i < 3 → P (slice_index_or (a ∷ b ∷ c ∷ []) i d)
three P a b c d first second third zero h = first
three P a b c d first second third (suc zero) h = second
three P a b c d first second third (suc (suc zero)) h = third
three P a b c d first second third (suc (suc (suc i))) h = absurd (omega (arith, h))

-- of three points each has at most the output of the next
three_rise : (a b c d : Point) → a.mw ≤ℤ b.mw → b.mw ≤ℤ c.mw → (i : ℕ) → suc i < 3
    → (slice_index_or (a ∷ b ∷ c ∷ []) i d).mw ≤ℤ (slice_index_or (a ∷ b ∷ c ∷ []) (suc i) d).mw
three_rise a b c d first second zero h = first
three_rise a b c d first second (suc zero) h = second
three_rise a b c d first second (suc (suc i)) h = absurd (omega (arith, h))

small_power : (k : ℕ) → k ≤ 10000000 → IsPower (millions k)
small_power k h = omega (arith, h)

small_cost : (k : ℕ) → k ≤ 1000000 → IsCost (millions k)
small_cost k h = omega (arith, h)

rises : (k m : ℕ) → k ≤ m → millions k ≤ℤ millions m
rises k m h = omega (arith, linear, h)

pub unit_lawful : (g : ℕ) (n : Numbers) → IsSmall n → IsLawfulThermal (unit_of g n)
unfolding unit_of
unit_lawful g n small =
    let costs = costs_small n small in
    record {
      minimum = limit_is n.minimum (omega (arith, small.minimum));
      maximum = limit_is (n.minimum + n.range) (omega (arith, small.minimum, small.range));
      range = rises n.minimum (n.minimum + n.range) (omega arith);
      ramp_up = limit_is (ramp_of n) (omega (arith, small.range));
      ramp_down = limit_is (ramp_of n) (omega (arith, small.range));
      start_limit = limit_is (n.minimum + ramp_of n) (omega (arith, small.minimum, small.range));
      stop_limit = limit_is (n.minimum + ramp_of n) (omega (arith, small.minimum, small.range));
      time_up = (small.time_up.0, omega (arith, small.time_up.1));
      time_down = (small.time_down.0, omega (arith, small.time_down.1));
      initial_output = small_power (n.minimum + 3 * n.range / 10) (omega (arith, small.minimum, small.range));
      initial_time_up = omega (arith, small.time_up.1);
      initial_time_down = omega arith;
      categories = (omega arith, omega arith);
      lags = two (λ (row : StartRow). row.lag ≤ MAX_TIME) _ _ _ (omega (arith, small.time_down.1)) (omega (arith, small.time_down.1));
      start_costs = two (λ (row : StartRow). IsCost row.cost) _ _ _
          (small_cost n.start_cost (omega (arith, small.start_cost))) (small_cost (2 * n.start_cost) (omega (arith, small.start_cost)));
      points = (omega arith, omega arith);
      outputs = three (λ (p : Point). IsPower p.mw) _ _ _ _ (small_power n.minimum (omega (arith, small.minimum)))
          (small_power (n.minimum + n.range / 2) (omega (arith, small.minimum, small.range)))
          (small_power (n.minimum + n.range) (omega (arith, small.minimum, small.range)));
      costs = three (λ (p : Point). IsCost p.cost) _ _ _ _ (small_cost (minimum_cost n) (omega (arith, costs.0)))
          (small_cost (middle_cost n) (omega (arith, costs.1))) (small_cost (maximum_cost n) (omega (arith, costs.2)));
      rising = three_rise _ _ _ _ (rises n.minimum (n.minimum + n.range / 2) (omega arith)) (rises (n.minimum + n.range / 2) (n.minimum + n.range) (omega arith));
    }

-- ---- the system
unit-at : (seed g : ℕ) → g < 40 → IsLawfulThermal (slice_index_or (first_units seed 40) g no_unit)
unit-at seed g h =
    subst IsLawfulThermal (sym (units-at seed 40 g h)) (unit_lawful g (unit_numbers seed g) (numbers_small (state_after seed (7 * g))))

percents_small : All (λ percent. percent ≤ 100) percents
percents_small = search rules

demand_power : (minimum range percent : ℕ) → minimum ≤ 2000 → range ≤ 8000 → percent ≤ 100 → IsPower (demand_at minimum range percent)
demand_power minimum range percent h k m =
    let part : range * percent ≤ 8000 * 100 = mul-le range percent 8000 100 k m in
    small_power (minimum + range * percent / 100) (omega (arith, h, part))

renewable_lawful : (seed w : ℕ) → w < 1 → IsLawfulRenewable (demo_instance seed) w
unfolding demo_instance
renewable_lawful seed zero h = record {
  minimum_length = refl;
  maximum_length = refl;
  minimum = λ t k. subst IsPower (sym (get_or-replicate 24 t (pos 0) (pos 0) k)) (small_power 0 (omega arith));
  maximum = λ t k. subst IsPower (sym (get_or-replicate 24 t (millions 30) (pos 0) k)) (small_power 30 (omega arith));
  range = λ t k.
      subst (λ z. int_max z (pos 0) ≤ℤ renewable_maximum (demo_instance seed) 0 t) (sym (get_or-replicate 24 t (pos 0) (pos 0) k))
      (subst (λ z. pos 0 ≤ℤ z) (sym (get_or-replicate 24 t (millions 30) (pos 0) k)) (omega (arith, linear)));
}
renewable_lawful seed (suc w) h = absurd (omega (arith, h))

pub demo_lawful : (seed : ℕ) → IsLawfulInstance (demo_instance seed)
unfolding demo_instance
demo_lawful seed =
    let minimum = minimum_sum seed 40 in
    let range = range_sum seed 40 in
    let least : minimum ≤ 2000 = minimum-size seed 40 in
    let wide : range ≤ 8000 = range-size seed 40 in
    record {
      periods = (omega arith, omega arith);
      demand_length = refl;
      reserves_length = refl;
      demand = All-map IsPower (demand_at minimum range) percents
          (All-weaker (λ percent. percent ≤ 100) (λ percent. IsPower (demand_at minimum range percent)) (λ percent small. demand_power minimum range percent least wide small) percents percents_small);
      reserves = All-replicate IsPower 24 (millions (3 * range / 100)) (small_power (3 * range / 100) (omega (arith, wide)));
      thermal_units = omega (arith, units-count seed 40);
      thermal = λ g h. unit-at seed g (omega (arith, h, units-count seed 40));
      renewable_units = omega arith;
      renewable = renewable_lawful seed;
      shed_price = omega arith;
      short_price = omega arith;
      shortages = omega (arith, linear, unpriced (demo_instance seed) 0 0 refl refl);
    }

-- ---- each unit may run
initially_on : (g : ℕ) (n : Numbers) → (unit_of g n).on0 ≡ true
unfolding unit_of
initially_on g n = refl

low_enough : (g : ℕ) (n : Numbers) → (unit_of g n).p0 ≤ℤ (unit_of g n).pmax
unfolding unit_of
low_enough g n = rises (n.minimum + 3 * n.range / 10) (n.minimum + n.range) (omega arith)

unit_runs : (periods g : ℕ) (n : Numbers) → 1 ≤ periods → IsSmall n → IsTrue (is_allowed periods (unit_of g n) (on_during 0 periods))
unit_runs periods g n some small = (highest-kept_on periods (unit_of g n) (unit_lawful g n small) some (initially_on g n) (low_enough g n)).allowed

pub demo_runs : (seed : ℕ) → MayAllRun (demo_instance seed)
unfolding demo_instance
demo_runs seed g h =
    let within : g < 40 = omega (arith, h, units-count seed 40) in
    subst (λ (unit : Thermal). IsTrue (is_allowed 24 unit (on_during 0 24))) (sym (units-at seed 40 g within))
    (unit_runs 24 g (unit_numbers seed g) (omega arith) (numbers_small (state_after seed (7 * g))))
