-- A period whose amounts stand at a level and meet demand is filled in order of merit.
-- Cite by `use Rattle.decommitment.proofs.LevelFills.{level_fill}`.
use Rattle.std.proofs.Common.{◌≡◌, ℕ, suc, ◌+◌, ◌<◌, ◌≤◌, inl, inr, ⊎_elim, refl, sym, subst, ◌∙◌, arith, List, length, ℤ, pos, ◌+ℤ◌, ◌-ℤ◌, ◌≤ℤ◌, ap}
use Rattle.std.specs.Int.{int_min}
use Rattle.std.proofs.lemmas.Int.{ints}
use Rattle.std.proofs.lemmas.Bool.{cases_lt}
use Rattle.uc_model.specs.Prelude.{IsLawfulInstance, sum_below, thermal_count, renewable_count}
use Rattle.uc_model.proofs.Common.{linear, sum_below-le, sum_below-split}
use Rattle.dispatch_repair.specs.Prelude.{AreHeadsOf, AreRangesOf, IsSizedOutput, range_at, thermal_amount, period_after, IsDispatchedFrom, AddsUp, CostsUpTo, IsFilledTo, IsFull, IsLeft, IsTaken, HasNextSlope, Period, AreInMeritOrder, no_segment, segment_at, source_at, source_count, IsSizedLeft, AreTotalsOf}
use Rattle.dispatch_repair.specs.Amounts.{amount_at}
use Rattle.dispatch_repair.specs.MeritOrder.{Slope}
use Rattle.dispatch_repair.specs.Period.{Instance, Pattern}
use Rattle.dispatch_repair.specs.declared.fill.Left.{Left}
use Rattle.dispatch_repair.specs.declared.range.Range.{Range}
use Rattle.dispatch_repair.specs.declared.segment.Segment.{Segment}
use Rattle.dispatch_repair.proofs.Filling.{costs_trans, run_positive, sorted_costs}
use Rattle.dispatch_repair.proofs.Merit.{renewable_lows, thermal_lows}
use Rattle.dispatch_repair.proofs.SourceSlopes.{next_run}
use Rattle.dispatch_repair.proofs.Reaches.{ranges_are, ranges_in}
use Rattle.dispatch_repair.proofs.Shortages.{dispatched_from}
use Rattle.decommitment.specs.inside.Fills.{Fill, IsReady, IsStarted, Hour, System, Target, IsFill, IsHourOf, IsMet, IsWalked, hour_period}
use Rattle.decommitment.specs.inside.Levels.{IsReached}
use Rattle.dispatch_repair.specs.declared.obstacle.Totals.{Totals}

module _ (instance : Instance) (patterns : List Pattern) (t : ℕ) (before : ℕ → ℤ) (order : List Segment) (fill : Fill) (left : Left)
    (lawful : IsLawfulInstance instance) (within : t < instance.periods)
    (sizes : (g : ℕ) → g < thermal_count instance → IsSizedOutput (before g)) (merit : AreInMeritOrder instance order)
    (ready : IsReady (period_after instance patterns t before) order fill) (started : IsStarted (period_after instance patterns t before) fill.shortage left)
    (all : fill.given.thermal +ℤ fill.given.renewable ≡ (left.need +ℤ fill.totals.thermal_low) +ℤ fill.totals.renewable_low)
    (limit : fill.given.thermal ≤ℤ (left.room +ℤ fill.totals.thermal_low)) where
  abbrev period : Period
  period = period_after instance patterns t before

  abbrev W : ℕ
  W = renewable_count instance

  abbrev G : ℕ
  G = thermal_count instance

  abbrev amounts : List ℤ
  amounts = fill.amounts.items

  abbrev ranges : List Range
  ranges = ranges_in period

  abbrev rest : Left
  rest = record { need = pos 0; room = (left.room +ℤ fill.totals.thermal_low) -ℤ fill.given.thermal }

  are : AreRangesOf period ranges
  are = ranges_are period lawful within sizes

  -- ---- sums
  low_at : (n : ℕ) → n < source_count instance → (range_at ranges n).low ≤ℤ amount_at amounts n
  low_at n h = subst (λ z. z ≤ℤ amount_at amounts n) (sym (are n h).low) (ready.standing.level n h).low_end

  high_at : (n : ℕ) → n < source_count instance → amount_at amounts n ≤ℤ (range_at ranges n).high
  high_at n h = subst (λ z. amount_at amounts n ≤ℤ z) (sym (are n h).high) (ready.standing.level n h).high_end

  thermal_low : sum_below G (λ g. (range_at ranges (W + g)).low) ≡ fill.totals.thermal_low
  thermal_low = thermal_lows period ranges are ∙ sym ready.totals.thermal_low.is

  renewable_low : sum_below W (λ w. (range_at ranges w).low) ≡ fill.totals.renewable_low
  renewable_low = renewable_lows period ranges are ∙ sym ready.totals.renewable_low.is

  sums : AddsUp instance ranges left rest amounts
  sums = record {
    need = omega (
      arith,
      linear,
      sum_below-split W G (amount_at amounts),
      sum_below-split W G (λ n. (range_at ranges n).low),
      ready.standing.given.thermal.is,
      ready.standing.given.renewable.is,
      thermal_low,
      renewable_low,
      all,
    );
    room = omega (arith, linear, ready.standing.given.thermal.is, thermal_low);
  }

  up : fill.totals.thermal_low ≤ℤ fill.given.thermal
  up =
      let each : sum_below G (λ g. (range_at ranges (W + g)).low) ≤ℤ sum_below G (thermal_amount instance amounts) =
      sum_below-le G _ _ (λ g h. low_at (W + g) (omega (arith, h))) in
      omega (arith, linear, each, thermal_low, ready.standing.given.thermal.is)

  part_size : (whole part : ℤ) → IsSizedLeft whole → pos 0 ≤ℤ part → part ≤ℤ whole → IsSizedLeft part
  part_size whole part size low high = grind (arith, ints, size, low, high)

  sized : IsLeft rest
  sized = record {
    need = omega (arith, linear);
    room = omega (arith, linear, limit);
    need_size = omega arith;
    room_size = part_size left.room rest.room started.sizes.room_size (omega (arith, linear, limit)) (omega (arith, linear, up));
  }

  -- ---- watts
  -- a watt that was taken costs up to each segment from the level on
  module _ (j : ℕ) (late : fill.level ≤ j) (inside : j < length order) (n : ℕ) (watt : ℤ) (taken : IsTaken instance ranges amounts n watt)
      (slope : Slope) (next : HasNextSlope instance (source_at instance n) watt slope) where
    from_reached : IsReached order n (suc fill.level) (amount_at amounts n) → CostsUpTo slope n (segment_at order j).slope (segment_at order j).source
    from_reached it =
        let own = merit.segments.each it.j no_segment it.below in
        let its : CostsUpTo slope n (segment_at order it.j).slope (segment_at order it.j).source = record {
          slope = own.below watt slope (omega (arith, linear, taken.high, it.end))
              (subst (λ m. HasNextSlope instance (source_at instance m) watt slope) (sym it.source) next);
          source = λ back. omega (arith, it.source);
        } in
        costs_trans slope (segment_at order it.j).slope (segment_at order j).slope n (segment_at order it.j).source (segment_at order j).source
        (next_run instance n watt slope next) own.run (run_positive instance order j merit inside) its
        (sorted_costs (segment_at order it.j) (segment_at order j) own.run (run_positive instance order j merit inside)
        (merit.sorted it.j j (omega (arith, it.place, late)) inside))

    costs : CostsUpTo slope n (segment_at order j).slope (segment_at order j).source
    costs = ⊎_elim
        (λ none. absurd (omega (arith, linear, none, taken.low, taken.high, (are n taken.source).low)))
        from_reached
        (ready.standing.level n taken.source).taken

  full_before : (j : ℕ) → j < fill.level → j < length order → IsFull ranges amounts (segment_at order j)
  full_before j early inside =
      let s = (segment_at order j).source in
      let h : s < source_count instance = (merit.segments.each j no_segment inside).source in
      subst (λ z. int_min (segment_at order j).end z ≤ℤ amount_at amounts s) (sym (are s h).high) ((ready.standing.level s h).full j early inside refl)

  filled : IsFilledTo instance order ranges left (length order) amounts rest
  filled = record {
    count = ready.standing.given.count;
    low = low_at;
    high = high_at;
    sums = sums;
    left = sized;
    spent = λ j h. inr (inl refl);
    merit = λ j h. ⊎_elim (λ (early : j < fill.level). inl (full_before j early h))
        (λ (late : fill.level ≤ j). inr (λ n watt taken. inl (λ slope next. costs j late h n watt taken slope next)))
        (cases_lt j fill.level);
    ahead = λ j late h n watt taken slope next. absurd (omega (arith, late, h));
  }

  -- ---- the period
  pub level_fill : (numbers : List ℤ) → AreHeadsOf period numbers → IsDispatchedFrom period fill.shortage amounts numbers
  level_fill numbers tops =
      dispatched_from instance patterns t before order ranges (record { shortage = fill.shortage; left = left }) amounts numbers rest lawful within merit are tops
      started filled

-- ---- a period whose units have entered and whose demand is met
module _ (system : System) (hour : Hour) (of : IsHourOf system hour) (old new : Fill) (left : Left) (target : Target)
    (was : IsReady (hour_period system hour) system.merit.now.order.items old) (started : IsStarted (hour_period system hour) old.shortage left)
    (walked : IsWalked (hour_period system hour) system.merit.now.order.items old new) where
  abbrev met_period : Period
  met_period = hour_period system hour

  met_ready : IsReady met_period system.merit.now.order.items new
  met_ready = record { standing = walked.standing; ranges = was.ranges; totals = subst (AreTotalsOf met_period) (sym walked.totals) was.totals }

  pub settled : target.all ≡ (left.need +ℤ old.totals.thermal_low) +ℤ old.totals.renewable_low → target.thermal ≡ left.room +ℤ old.totals.thermal_low
      → IsMet target new.given
      → IsFill system.instance.now system.merit.now.order.items hour.patterns.now hour.t hour.before.now new
  settled all limit met = record {
    was = of.before;
    count = walked.standing.given.count;
    ready = λ base. met_ready;
    dispatched = level_fill system.instance.now hour.patterns.now hour.t (thermal_amount system.instance.now hour.before.now) system.merit.now.order.items new left
        of.before.lawful of.before.period of.before.sizes of.merit.order met_ready (subst (λ s. IsStarted met_period s left) (sym walked.shortage) started)
        (met.all ∙ all ∙ ap (λ (t : Totals). (left.need +ℤ t.thermal_low) +ℤ t.renewable_low) (sym walked.totals))
        (subst (λ z. new.given.thermal ≤ℤ z) (limit ∙ ap (λ (t : Totals). left.room +ℤ t.thermal_low) (sym walked.totals)) met.thermal);
  }
