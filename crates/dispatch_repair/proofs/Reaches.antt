-- The ranges and the heads of a period's sources, as lists, with their sizes.
use Rattle.std.proofs.Common.{◌≡◌, ℕ, suc, ◌+◌, ◌-◌, ◌<◌, Bool, true, false, sym, ap, subst, ◌∙◌, arith, List, ℤ, pos, ◌+ℤ◌, ◌-ℤ◌, ◌*ℤ◌, ◌≤ℤ◌, nat_lt}
use Rattle.std.specs.Int.{int_min, int_max}
use Rattle.std.proofs.lemmas.Int.{ints}
use Rattle.std.proofs.lemmas.Bool.{cond_both}
use Rattle.uc_model.specs.Prelude.{Commitment, cap, start_cap, stop_cap, start_reduction, stop_reduction, starts, stops, IsLawfulInstance, IsLawfulThermal, IsPower, thermal_unit, thermal_count, renewable_count, renewable_maximum, renewable_minimum, point, point_p, point_count, bit}
use Rattle.uc_model.proofs.Common.{linear, mul-one, mul-zero}
use Rattle.dispatch_repair.specs.Prelude.{Thermal, Period, low_of, high_of, head_of, head, lowest, highest, is_off_next, MAX_POWER, Range, AreHeadsOf, AreRangesOf, IsRangeOf, IsSizedEnd, IsSizedOutput, range_at, source_at, source_count}
use Rattle.dispatch_repair.proofs.CurveSegments.{renewable_at, thermal_at}
use Rattle.dispatch_repair.specs.inside.Rows.{list_of}
use Rattle.dispatch_repair.proofs.Listed.{listed}
use Rattle.dispatch_repair.proofs.Places.{renewable_range, thermal_range, ranges_from}

-- ---- sizes
-- a power that can't be negative, or nothing in its place
record IsUpTo (z : ℤ) : Type 0 where
  low : pos 0 ≤ℤ z
  high : z ≤ℤ pos MAX_POWER

by_bit : (z : ℤ) (b : Bool) → IsUpTo z → IsUpTo (z *ℤ bit b)
by_bit z true h = subst IsUpTo (sym (mul-one z)) h
by_bit z false h = subst IsUpTo (sym (mul-zero z)) (record { low = omega (arith, linear); high = omega (arith, linear) })

-- a number of the size of a power, of any sign
record IsAround (z : ℤ) : Type 0 where
  low : pos 0 ≤ℤ (z +ℤ pos MAX_POWER)
  high : z ≤ℤ pos MAX_POWER

difference : (a b : ℤ) → IsUpTo a → IsUpTo b → IsAround (a -ℤ b)
difference a b first second = record { low = omega (arith, linear, first.low, second.high); high = omega (arith, linear, first.high, second.low) }

least_around : (a b : ℤ) → IsAround a → IsAround b → IsAround (int_min a b)
least_around a b first second = grind (arith, ints, first, second)

above : (most limit : ℤ) → IsPower most → pos 0 ≤ℤ limit → IsUpTo (int_max (most -ℤ limit) (pos 0))
above most limit power low = record { low = grind (arith, ints); high = grind (arith, ints, power, low) }

module _ (periods : ℕ) (unit : Thermal) (on : Commitment) (t : ℕ) (lawful : IsLawfulThermal unit) where
  width_up : IsUpTo (unit.pmax -ℤ unit.pmin)
  width_up = record { low = omega (arith, linear, lawful.range); high = grind (arith, ints, lawful.maximum.power, lawful.minimum.low) }

  start_around : IsAround (start_cap unit on t)
  start_around =
      difference _ _ (by_bit (unit.pmax -ℤ unit.pmin) (on t) width_up)
      (by_bit (start_reduction unit) (starts unit on t) (above unit.pmax unit.su lawful.maximum.power lawful.start_limit.low))

  stop_around : IsAround (stop_cap unit on t)
  stop_around =
      difference _ _ (by_bit (unit.pmax -ℤ unit.pmin) (on t) width_up)
      (by_bit (stop_reduction unit) (stops unit on (suc t)) (above unit.pmax unit.sd lawful.maximum.power lawful.stop_limit.low))

  cap_around : IsAround (cap periods unit on t)
  cap_around = cond_both (nat_lt (suc t) periods) _ _ IsAround
      (λ more. least_around (start_cap unit on t) (stop_cap unit on t) start_around stop_around) (λ last. start_around)

  module _ (before : ℤ) (sized : IsSizedOutput before) where
    low_size : IsSizedEnd (lowest unit before)
    low_size = grind (arith, ints, sized, lawful.ramp_down.low, lawful.ramp_down.power)

    head_size : IsSizedEnd (head periods unit on t before)
    head_size = sized_least (cap periods unit on t) (before +ℤ unit.ru) cap_around (grind (arith, ints, sized, lawful.ramp_up.low, lawful.ramp_up.power))
      where
        sized_least : (a b : ℤ) → IsAround a → IsSizedEnd b → IsSizedEnd (int_min a b)
        sized_least a b first second = grind (arith, ints, first.low, first.high, second)

    point_size : IsSizedEnd (point_p unit (point_count unit - 1))
    point_size = apart (point unit (point_count unit - 1)).mw (point unit 0).mw
        (lawful.outputs (point_count unit - 1) (omega (arith, lawful.points.0))) (lawful.outputs 0 lawful.points.0)
      where
        apart : (a b : ℤ) → IsPower a → IsPower b → IsSizedEnd (a -ℤ b)
        apart a b first second = grind (arith, ints, first, second)

    least_size : (a b : ℤ) → IsSizedEnd a → IsSizedEnd b → IsSizedEnd (int_min a b)
    least_size a b first second = grind (arith, ints, first, second)

    high_size : IsSizedEnd (highest periods unit on t before)
    high_size =
        let most = least_size (head periods unit on t before) (point_p unit (point_count unit - 1)) head_size point_size in
        cond_both (is_off_next periods on t) _ _ IsSizedEnd
        (λ off. least_size (int_min (head periods unit on t before) (point_p unit (point_count unit - 1))) unit.rd most (wider unit.rd lawful.ramp_down.power))
        (λ on. most)
      where
        wider : (z : ℤ) → IsPower z → IsSizedEnd z
        wider z power = omega (arith, power)

-- ---- the lists
module _ (period : Period) where
  abbrev range_in : ℕ → Range
  range_in n = record { low = low_of period (source_at period.instance n); high = high_of period (source_at period.instance n) }

  abbrev pub ranges_in : List Range
  ranges_in = list_of (source_count period.instance) range_in

  abbrev pub heads_in : List ℤ
  heads_in = list_of (thermal_count period.instance) (head_of period)

  range_is : (n : ℕ) → n < source_count period.instance → range_at ranges_in n ≡ range_in n
  range_is n h = listed (source_count period.instance) range_in n (record { low = pos 0; high = pos 0 }) h

  module _ (lawful : IsLawfulInstance period.instance) (within : period.t < period.instance.periods)
      (sizes : (g : ℕ) → g < thermal_count period.instance → IsSizedOutput (period.before g)) where
    thermal_in : (g : ℕ) → g < thermal_count period.instance → IsRangeOf period (renewable_count period.instance + g) (range_at ranges_in (renewable_count period.instance + g))
    thermal_in g h =
        let is = range_is (renewable_count period.instance + g) (omega arith) in
        let unit = thermal_unit period.instance g in
        let low = ap (λ (r : Range). r.low) is ∙ ap (low_of period) (thermal_at period.instance g) in
        let high = ap (λ (r : Range). r.high) is ∙ ap (high_of period) (thermal_at period.instance g) in
        thermal_range period g (range_at ranges_in (renewable_count period.instance + g)) (record {
          low = low;
          high = high;
          low_size = subst IsSizedEnd (sym low)
              (low_size period.instance.periods unit (period.on g) period.t (lawful.thermal g h) (period.before g) (sizes g h));
          high_size = subst IsSizedEnd (sym high)
              (high_size period.instance.periods unit (period.on g) period.t (lawful.thermal g h) (period.before g) (sizes g h));
        })

    renewable_in : (w : ℕ) → w < renewable_count period.instance → IsRangeOf period w (range_at ranges_in w)
    renewable_in w h =
        let is = range_is w (omega arith) in
        let low = ap (λ (r : Range). r.low) is ∙ ap (low_of period) (renewable_at period.instance w h) in
        let high = ap (λ (r : Range). r.high) is ∙ ap (high_of period) (renewable_at period.instance w h) in
        renewable_range period w (range_at ranges_in w) h (record {
          low = low;
          high = high;
          low_size = subst IsSizedEnd (sym low) (greatest (renewable_minimum period.instance w period.t) ((lawful.renewable w h).minimum period.t within));
          high_size = subst IsSizedEnd (sym high) (wide (renewable_maximum period.instance w period.t) ((lawful.renewable w h).maximum period.t within));
        })
      where
        greatest : (z : ℤ) → IsPower z → IsSizedEnd (int_max z (pos 0))
        greatest z power = grind (arith, ints, power)

        wide : (z : ℤ) → IsPower z → IsSizedEnd z
        wide z power = omega (arith, power)

    pub ranges_are : AreRangesOf period ranges_in
    ranges_are = ranges_from period ranges_in renewable_in thermal_in

    pub heads_are : AreHeadsOf period heads_in
    heads_are g h =
        let is = listed (thermal_count period.instance) (head_of period) g (pos 0) h in
        record {
          is = is;
          size = subst IsSizedEnd (sym is) (head_size period.instance.periods (thermal_unit period.instance g) (period.on g) period.t (lawful.thermal g h)
              (period.before g) (sizes g h));
        }
