-- What is filled to the end is in order of merit, and meets demand.
use Rattle.std.proofs.Common.{◌≡◌, ℕ, ◌+◌, ◌-◌, ◌<◌, ◌≤◌, ◌⊎◌, inl, inr, ⊎_elim, refl, sym, ap, subst, ◌∙◌, arith, List, length, ℤ, pos, ◌+ℤ◌, ◌-ℤ◌, ◌≤ℤ◌, ◌<ℤ◌, nat_lt}
use Rattle.std.specs.Int.{int_min, int_max}
use Rattle.std.proofs.lemmas.Int.{ints}
use Rattle.std.proofs.lemmas.Bool.{cases_lt, lt-ltb, cond-true, cond_both}
use Rattle.std.proofs.lemmas.List.{get_or_default}
use Rattle.uc_model.specs.Prelude.{IsLawfulInstance, IsPower, sum_below, thermal_unit, thermal_count, renewable_count, point, point_p, point_count}
use Rattle.uc_model.proofs.Common.{linear, le_or_lt, le_antisymm, le_trans, sum_below-same, sum_below-le, sum_below-split, int_min_left, int_min_right}
use Rattle.dispatch_repair.specs.Prelude.{Instance, Period, Source, FromRenewable, FromThermal, IsSourceOf, low_of, high_of, head_of, thermal_sum, renewable_sum, demand_of, thermal_limit, is_off_next, Slope, HasNextSlope, HasLastSlope, ComesBefore, IsPreferred, CanMove, IsInMeritOrder, thermal_part, HaveRanges, Range, range_at, amount_of, thermal_amount, AreRangesOf, IsSizedOutput, Left, IsOpen, IsFull, CostsUpTo, IsWorth, IsTaken, IsFilledTo, IsFirstLeft, IsFillable, Segment, IsNextOn, source_at, source_count, segment_at, no_segment, width_at, AreInMeritOrder}
use Rattle.dispatch_repair.specs.Period.{heads, minimums}
use Rattle.dispatch_repair.specs.Amounts.{amount_at}
use Rattle.dispatch_repair.proofs.CurveSegments.{renewable_at, thermal_at}
use Rattle.dispatch_repair.proofs.SourceSlopes.{next_of, next_run}
use Rattle.dispatch_repair.proofs.Filled.{max_left}
use Rattle.dispatch_repair.proofs.Filling.{run_positive, costs_trans}

-- ---- ranges

pub high-le-head : (period : Period) (g : ℕ) → high_of period (FromThermal g) ≤ℤ head_of period g
high-le-head period g =
    cond_both (is_off_next period.instance.periods (period.on g) period.t) _ _ (λ z. z ≤ℤ head_of period g)
    (λ off. le_trans _ _ _ (int_min_left _ _) (int_min_left _ _)) (λ on. int_min_left _ _)

pub high-le-width : (period : Period) (g : ℕ) → high_of period (FromThermal g) ≤ℤ width_at period.instance (FromThermal g)
high-le-width period g =
    cond_both (is_off_next period.instance.periods (period.on g) period.t) _ _ (λ z. z ≤ℤ width_at period.instance (FromThermal g))
    (λ off. le_trans _ _ _ (int_min_left _ _) (int_min_right _ _)) (λ on. int_min_right _ _)

-- a place is that of a renewable unit, or of a thermal one
pub data IsPlace (instance : Instance) (n : ℕ) : Type 0 where
  at_renewable : n < renewable_count instance → IsPlace instance n
  at_thermal : (g : ℕ) → g < thermal_count instance → n ≡ renewable_count instance + g → IsPlace instance n

place : (instance : Instance) (n : ℕ) → n < source_count instance → IsPlace instance n
place instance n h = ⊎_elim (λ low. at_renewable low)
    (λ high. at_thermal (n - renewable_count instance) (omega arith) (omega arith))
    (cases_lt n (renewable_count instance))

-- the range of each source is one on which its cost is known
pub record IsGood (period : Period) (s : Source) : Type 0 where
  pub low : pos 0 ≤ℤ low_of period s
  pub order : low_of period s ≤ℤ high_of period s
  pub known : high_of period s ≤ℤ width_at period.instance s

pub good_renewable : (period : Period) (w : ℕ) → IsLawfulInstance period.instance → period.t < period.instance.periods → w < renewable_count period.instance
    → IsGood period (FromRenewable w)
good_renewable period w lawful ht hw = grind (arith, ints, lawful, ht, hw)

good_thermal : (period : Period) (g : ℕ) → HaveRanges period (thermal_count period.instance) → g < thermal_count period.instance → IsGood period (FromThermal g)
good_thermal period g ranges hg = record {
  low = max_left (pos 0) (period.before g -ℤ (thermal_unit period.instance g).rd);
  order = ranges g hg;
  known = high-le-width period g;
}

pub good_at : (period : Period) (n : ℕ) → IsLawfulInstance period.instance → period.t < period.instance.periods → HaveRanges period (thermal_count period.instance)
    → n < source_count period.instance → IsGood period (source_at period.instance n)
good_at period n lawful ht ranges hn = by (place period.instance n hn)
  where
    by : IsPlace period.instance n → IsGood period (source_at period.instance n)
    by (at_renewable h) = subst (IsGood period) (sym (renewable_at period.instance n h)) (good_renewable period n lawful ht h)
    by (at_thermal g h e) = subst (λ m. IsGood period (source_at period.instance m)) (sym e) (subst (IsGood period) (sym (thermal_at period.instance g)) (good_thermal period g ranges h))

pub open_ranges : (period : Period) (ranges : List Range) → IsLawfulInstance period.instance → period.t < period.instance.periods
    → HaveRanges period (thermal_count period.instance) → AreRangesOf period ranges
    → (n : ℕ) → n < source_count period.instance → IsOpen period.instance n (range_at ranges n)
open_ranges period ranges lawful ht have are n hn =
    let good = good_at period n lawful ht have hn in
    let is = are n hn in
    record {
      low = subst (λ z. pos 0 ≤ℤ z) (sym is.low) good.low;
      order = subst (λ z. z) (λ t. sym is.low t ≤ℤ sym is.high t) good.order;
      known = subst (λ z. z ≤ℤ width_at period.instance (source_at period.instance n)) (sym is.high) good.known;
      size = is.high_size;
    }

-- ---- sums over ranges
pub thermal_lows : (period : Period) (ranges : List Range) → AreRangesOf period ranges
    → sum_below (thermal_count period.instance) (λ g. (range_at ranges (renewable_count period.instance + g)).low) ≡ thermal_sum period (low_of period)
thermal_lows period ranges are = grind (arith, ints, sum_below-same, thermal_at, are)

pub renewable_lows : (period : Period) (ranges : List Range) → AreRangesOf period ranges
    → sum_below (renewable_count period.instance) (λ w. (range_at ranges w).low) ≡ renewable_sum period (low_of period)
renewable_lows period ranges are = grind (arith, ints, sum_below-same, renewable_at, are)

-- a number below two others isn't at least their least
least_above : (end high amount : ℤ) → int_min end high ≤ℤ amount → amount <ℤ end → amount <ℤ high → ⊥
least_above end high amount most below less = grind (arith, ints, most, below, less)

-- the limit on the thermal units leaves what they have to give at least, and what renewable units can't
pub limit-covers : (period : Period) → IsFillable period → (z : ℤ) → z ≤ℤ int_max (thermal_sum period (low_of period)) (demand_of period -ℤ minimums period -ℤ renewable_sum period (high_of period))
    → z ≤ℤ thermal_sum period (high_of period) → z ≤ℤ thermal_limit period
limit-covers period free z low high =
    let tops : thermal_sum period (high_of period) ≤ℤ heads period = sum_below-le (thermal_count period.instance) _ _ (λ g hg. high-le-head period g) in
    grind (arith, ints, free.reserve)

-- ---- what is left at first
pub first_need : (period : Period) (left : Left) → IsFillable period → IsFirstLeft period left → pos 0 ≤ℤ left.need
first_need period left free first = omega (arith, linear, free.least, first.need)

pub first_room : (period : Period) (left : Left) → IsFillable period → IsFirstLeft period left → pos 0 ≤ℤ left.room
first_room period left free first =
    let within : thermal_sum period (low_of period) ≤ℤ thermal_sum period (high_of period) =
    sum_below-le (thermal_count period.instance) _ _ (λ g hg. free.ranges g hg) in
    omega (arith, linear, limit-covers period free (thermal_sum period (low_of period)) (grind (arith, ints)) within, first.room)

-- ---- a period that was filled to the last segment
-- all that is known of it
pub record IsFilledUp (period : Period) (segments : List Segment) (ends : List Range) (start : Left) (amounts : List ℤ) (rest : Left) : Type 0 where
  pub lawful : IsLawfulInstance period.instance
  pub within : period.t < period.instance.periods
  pub order : AreInMeritOrder period.instance segments
  pub ranges : AreRangesOf period ends
  pub free : IsFillable period
  pub first : IsFirstLeft period start
  pub filled : IsFilledTo period.instance segments ends start (length segments) amounts rest

module _ (period : Period) (order : List Segment) (ranges : List Range) (start : Left) (amounts : List ℤ) (rest : Left)
    (all : IsFilledUp period order ranges start amounts rest) where
  abbrev instance : Instance
  instance = period.instance

  abbrev W : ℕ
  W = renewable_count instance

  abbrev G : ℕ
  G = thermal_count instance

  opened : (n : ℕ) → n < source_count instance → IsOpen instance n (range_at ranges n)
  opened = open_ranges period ranges all.lawful all.within all.free.ranges all.ranges

  -- the segment of a source's next watt, and its place
  record HasSegment (n : ℕ) : Type 0 where
    j : ℕ
    below : j < length order
    next : IsNextOn instance n (amount_at amounts n) (segment_at order j)

  segment_of : (n : ℕ) → n < source_count instance → amount_at amounts n <ℤ (range_at ranges n).high → HasSegment n
  segment_of n hn less =
      let low : pos 0 ≤ℤ amount_at amounts n = omega (arith, linear, (opened n hn).low, all.filled.low n hn) in
      let known : amount_at amounts n <ℤ width_at instance (source_at instance n) = omega (arith, linear, less, (opened n hn).known) in
      let found = all.order.segments.covered n hn (amount_at amounts n) low known in
      record {
        j = found.1.0;
        below = found.1.1;
        next = subst (IsNextOn instance n (amount_at amounts n)) (sym (get_or_default order found.1.0 no_segment found.0 found.1.1 ∙ found.1.2)) found.2;
      }

  -- its part isn't full
  not_full : (n : ℕ) (it : HasSegment n) → amount_at amounts n <ℤ (range_at ranges n).high → ¬ IsFull ranges amounts (segment_at order it.j)
  not_full n it less full =
      least_above (segment_at order it.j).end (range_at ranges n).high (amount_at amounts n)
      (subst (λ m. int_min (segment_at order it.j).end (range_at ranges m).high ≤ℤ amount_at amounts m) it.next.source full) it.next.end less

  -- while demand isn't met, a source for which something is left is at the high end of its range
  topped : (n : ℕ) → n < source_count instance → pos 0 <ℤ rest.need → (n < W) ⊎ (pos 0 <ℤ rest.room) → (range_at ranges n).high ≤ℤ amount_at amounts n
  topped n hn open_need some = ⊎_elim (λ (done : (range_at ranges n).high ≤ℤ amount_at amounts n). done) (λ less. absurd (clash less)) (le_or_lt (range_at ranges n).high (amount_at amounts n))
    where
      clash : amount_at amounts n <ℤ (range_at ranges n).high → ⊥
      clash less =
          let it = segment_of n hn less in
          ⊎_elim (λ full. not_full n it less full)
          (λ gone. ⊎_elim (λ need. omega (arith, linear))
          (λ room. ⊎_elim (λ (free : n < W). omega (arith, free, subst (λ m. W ≤ m) it.next.source room.0)) (λ up. omega (arith, linear, up, room.1)) some) gone)
          (all.filled.spent it.j it.below)

  -- ---- sums
  abbrev thermal_amounts : ℤ
  thermal_amounts = sum_below G (thermal_amount instance amounts)

  abbrev renewable_amounts : ℤ
  renewable_amounts = sum_below W (amount_at amounts)

  need_is : rest.need ≡ (demand_of period -ℤ minimums period) -ℤ (renewable_amounts +ℤ thermal_amounts)
  need_is =
      let split = sum_below-split W G (amount_at amounts) in
      let lows = sum_below-split W G (λ n. (range_at ranges n).low) in
      omega (arith, linear, all.filled.sums.need, all.first.need, renewable_lows period ranges all.ranges, thermal_lows period ranges all.ranges)

  room_is : rest.room ≡ thermal_limit period -ℤ thermal_amounts
  room_is =
      omega (arith, linear, all.filled.sums.room, all.first.room, thermal_lows period ranges all.ranges)

  renewable_tops : pos 0 <ℤ rest.need → renewable_sum period (high_of period) ≤ℤ renewable_amounts
  renewable_tops up = sum_below-le W _ _ (λ w hw.
      let hn : w < W + G = omega arith in
      subst (λ z. z ≤ℤ amount_at amounts w) ((all.ranges w hn).high ∙ ap (high_of period) (renewable_at instance w hw)) (topped w hn up (inl hw)))

  thermal_tops : pos 0 <ℤ rest.need → pos 0 <ℤ rest.room → thermal_sum period (high_of period) ≤ℤ thermal_amounts
  thermal_tops up some = sum_below-le G _ _ (λ g hg.
      let hn : W + g < W + G = omega arith in
      subst (λ z. z ≤ℤ amount_at amounts (W + g)) ((all.ranges (W + g) hn).high ∙ ap (high_of period) (thermal_at instance g)) (topped (W + g) hn up (inr some)))

  -- demand is met
  met : rest.need ≡ pos 0
  met = ⊎_elim (λ (done : rest.need ≤ℤ pos 0). le_antisymm rest.need (pos 0) done all.filled.left.need) (λ up. absurd (short up)) (le_or_lt rest.need (pos 0))
    where
      short : pos 0 <ℤ rest.need → ⊥
      short up = ⊎_elim
          (λ (none : rest.room ≤ℤ pos 0).
          omega (arith, linear, up, need_is, room_is, renewable_tops up, limit-covers period all.free ((demand_of period -ℤ minimums period) -ℤ renewable_sum period (high_of period)) (grind (arith, ints)) (omega (arith, linear, all.free.most))))
          (λ some.
          omega (arith, linear, up, need_is, renewable_tops up, thermal_tops up some, all.free.most))
          (le_or_lt rest.room (pos 0))

  -- ---- sources
  abbrev place_of : Source → ℕ
  place_of (FromRenewable w) = w
  place_of (FromThermal g) = W + g

  place_within : (s : Source) → IsSourceOf instance s → place_of s < source_count instance
  place_within (FromRenewable w) h = omega arith
  place_within (FromThermal g) h = inside W g G h
    where
      inside : (w' k n : ℕ) → k < n → w' + k < w' + n
      inside w' k n h = omega arith

  source_is : (s : Source) → IsSourceOf instance s → source_at instance (place_of s) ≡ s
  source_is (FromRenewable w) h = renewable_at instance w h
  source_is (FromThermal g) h = thermal_at instance g

  amount_is : (s : Source) → IsSourceOf instance s → amount_of instance amounts s ≡ amount_at amounts (place_of s)
  amount_is (FromRenewable w) h = cond-true (nat_lt w W) _ _ (lt-ltb w W h)
  amount_is (FromThermal g) h = refl

  low_is : (s : Source) → IsSourceOf instance s → (range_at ranges (place_of s)).low ≡ low_of period s
  low_is s h = (all.ranges (place_of s) (place_within s h)).low ∙ ap (low_of period) (source_is s h)

  high_is : (s : Source) → IsSourceOf instance s → (range_at ranges (place_of s)).high ≡ high_of period s
  high_is s h = (all.ranges (place_of s) (place_within s h)).high ∙ ap (high_of period) (source_is s h)

  renewables_are : renewable_sum period (amount_of instance amounts) ≡ renewable_amounts
  renewables_are = sum_below-same W _ _ (λ w hw. amount_is (FromRenewable w) hw)

  later : (to from : Source) → IsSourceOf instance to → ComesBefore to from → place_of from ≤ place_of to → ⊥
  later (FromRenewable v) (FromRenewable w) h before le = omega (arith, before)
  later (FromRenewable v) (FromThermal g) h before le = no v W g h le
    where
      no : (a w k : ℕ) → a < w → w + k ≤ a → ⊥
      no a w k h l = omega arith
  later (FromThermal g) (FromRenewable w) h before le = before
  later (FromThermal g) (FromThermal k) h before le = no W g k before le
    where
      no : (w a b : ℕ) → a < b → w + b ≤ w + a → ⊥
      no w a b h l = omega arith

  no_move : (from to : Source) (last next : Slope) → CanMove period (amount_of instance amounts) from to
      → HasLastSlope instance from (amount_of instance amounts from) last → HasNextSlope instance to (amount_of instance amounts to) next
      → ¬ IsPreferred to next from last
  no_move from to last next move has_last has_next preferred =
      ⊎_elim (λ worth. refuse worth) (λ full. not_full n it up full) (swap (all.filled.merit it.j it.below))
    where
      n : ℕ
      n = place_of to

      m : ℕ
      m = place_of from

      up : amount_at amounts n <ℤ (range_at ranges n).high
      up = subst (λ z. z) (λ t. amount_is to move.target t <ℤ sym (high_is to move.target) t) move.up

      it : HasSegment n
      it = segment_of n (place_within to move.target) up

      seg : Segment
      seg = segment_at order it.j

      swap : {A B : Type 0} → A ⊎ B → B ⊎ A
      swap (inl a) = inr a
      swap (inr b) = inl b

      watt : ℤ
      watt = amount_at amounts m -ℤ pos 1

      taken : IsTaken instance ranges amounts m watt
      taken = record {
        source = place_within from move.source;
        low = omega (arith, linear, subst (λ z. z) (λ t. sym (low_is from move.source) t <ℤ amount_is from move.source t) move.down);
        high = omega (arith, linear);
      }

      last_at : HasNextSlope instance (source_at instance m) watt last
      last_at = subst (λ s. HasNextSlope instance s watt last) (sym (source_is from move.source))
          (subst (λ z. HasNextSlope instance from (z -ℤ pos 1) last) (amount_is from move.source) (next_of instance from (amount_of instance amounts from) last has_last))

      next_at : HasNextSlope instance (source_at instance n) (amount_at amounts n) next
      next_at = subst (λ s. HasNextSlope instance s (amount_at amounts n) next) (sym (source_is to move.target))
          (subst (λ z. HasNextSlope instance to z next) (amount_is to move.target) has_next)

      seg_costs : CostsUpTo seg.slope seg.source next n
      seg_costs = record { slope = it.next.above next next_at; source = λ back. (omega (arith, it.next.source)) }

      against : CostsUpTo last m next n → ⊥
      against costs = ⊎_elim
          (λ lower. omega (arith, linear, costs.slope))
          (λ even. later to from move.target even.1 (costs.source (omega (arith, linear, even.0))))
          preferred

      no_room : m < W → W ≤ n → rest.room ≡ pos 0 → ⊥
      no_room free thermal none = omega (arith, linear, move.limit, room_is, part_to to thermal move.target, part_from from free move.source)
        where
          part_to : (s : Source) → W ≤ place_of s → IsSourceOf instance s → thermal_part s ≡ pos 1
          part_to (FromRenewable w) h k = absurd (omega arith)
          part_to (FromThermal g) h k = refl

          part_from : (s : Source) → place_of s < W → IsSourceOf instance s → thermal_part s ≡ pos 0
          part_from (FromRenewable w) h k = refl
          part_from (FromThermal g) h k = absurd (omega arith)

      refuse : ((k : ℕ) (w : ℤ) → IsTaken instance ranges amounts k w → IsWorth instance seg rest k w) → ⊥
      refuse worth = ⊎_elim
          (λ costs. against (costs_trans last seg.slope next m seg.source n (next_run instance m watt last last_at) (run_positive instance order it.j all.order it.below)
          (next_run instance n (amount_at amounts n) next next_at) (costs last last_at) seg_costs))
          (λ exempt. no_room exempt.0 (subst (λ k. W ≤ k) it.next.source exempt.1) exempt.2)
          (worth m watt taken)

  pub in_merit_order : IsInMeritOrder period (amount_of instance amounts)
  in_merit_order = record {
    low = λ s h. subst (λ z. z) (λ t. low_is s h t ≤ℤ sym (amount_is s h) t) (all.filled.low (place_of s) (place_within s h));
    high = λ s h. subst (λ z. z) (λ t. sym (amount_is s h) t ≤ℤ high_is s h t) (all.filled.high (place_of s) (place_within s h));
    demand = omega (arith, linear, renewables_are, sym met ∙ need_is);
    limit = omega (arith, linear, room_is, all.filled.left.room);
    merit = no_move;
  }

  -- a thermal unit gives no more than its curve is wide
  pub width_size : (g : ℕ) → g < G → IsSizedOutput (thermal_amount instance amounts g)
  width_size g hg =
      let n = W + g in
      let hn : W + g < W + G = omega arith in
      let its = opened n hn in
      let unit = thermal_unit instance g in
      let thermal = all.lawful.thermal g hg in
      let most : amount_at amounts n ≤ℤ point_p unit (point_count unit - 1) =
      omega (arith, linear, all.filled.high n hn, subst (λ s. (range_at ranges n).high ≤ℤ width_at instance s) (thermal_at instance g) its.known) in
      size (amount_at amounts n) (point unit (point_count unit - 1)).mw (point unit 0).mw (omega (arith, linear, its.low, all.filled.low n hn)) most
      (thermal.outputs (point_count unit - 1) (omega (arith, thermal.points.0))) (thermal.outputs 0 thermal.points.0)
    where
      size : (z a b : ℤ) → pos 0 ≤ℤ z → z ≤ℤ (a -ℤ b) → IsPower a → IsPower b → IsSizedOutput z
      size z a b low high ha hb = grind (arith, ints, low, high, ha, hb)
