-- Raising the source of one segment more keeps the order of merit.
use Rattle.std.proofs.Common.{◌≡◌, ◌≢◌, ℕ, suc, ◌+◌, ◌-◌, ◌<◌, ◌≤◌, ◌⊎◌, inl, inr, ⊎_elim, sym, ap, subst, ◌∙◌, false, arith, List, length, ℤ, pos, ◌+ℤ◌, ◌-ℤ◌, ◌*ℤ◌, ◌≤ℤ◌, ◌<ℤ◌}
use Rattle.std.specs.Int.{int_max}
use Rattle.std.proofs.lemmas.Int.{ints}
use Rattle.std.proofs.lemmas.Bool.{cases_lt, cases_eq}
use Rattle.uc_model.specs.Prelude.{sum_below, thermal_count, renewable_count}
use Rattle.uc_model.proofs.Common.{linear, le_or_lt, le_antisymm, sum_below-same, sum_below-add, sum_below-single}
use Rattle.dispatch_repair.specs.Prelude.{Instance, Slope, HasNextSlope, Range, range_at, thermal_amount, Left, IsLeft, IsOpen, IsFull, IsSpent, IsRaise, CostsUpTo, IsWorth, IsTaken, AddsUp, IsFilledTo, Segment, comes_before, source_at, source_count, segment_at, no_segment, IsSegmentOf, AreInMeritOrder}
use Rattle.dispatch_repair.specs.Amounts.{amount_at}
use Rattle.dispatch_repair.proofs.MeritSegments.{up_to-from}
use Rattle.dispatch_repair.proofs.SourceSlopes.{at_most_trans}

-- ---- sums with one term changed
pub sum_below-raised : (n k : ℕ) (f g : ℕ → ℤ) (more : ℤ) → k < n → g k ≡ f k +ℤ more → ((j : ℕ) → j ≢ k → g j ≡ f j)
    → sum_below n g ≡ sum_below n f +ℤ more
sum_below-raised n k f g more h here others =
    let gap : ℕ → ℤ = λ j. g j -ℤ f j in
    let one : sum_below n gap ≡ more =
    sum_below-single n gap k h (λ j hj ne. omega (arith, linear, others j ne)) ∙ (omega (arith, linear, here)) in
    sum_below-same n g (λ j. f j +ℤ gap j) (λ j hj. omega (arith, linear)) ∙ sum_below-add n f gap ∙ ap (λ z. sum_below n f +ℤ z) one

-- ---- slopes one after another
pub costs_trans : (a b c : Slope) (n m k : ℕ) → pos 0 <ℤ a.run → pos 0 <ℤ b.run → pos 0 <ℤ c.run
    → CostsUpTo a n b m → CostsUpTo b m c k → CostsUpTo a n c k
costs_trans a b c n m k ha hb hc first second = grind (arith, ints, at_most_trans, ha, hb, hc, first, second)

-- a segment before another costs up to it
pub sorted_costs : (first second : Segment) → pos 0 <ℤ first.slope.run → pos 0 <ℤ second.slope.run → comes_before second first ≡ false
    → CostsUpTo first.slope first.source second.slope second.source
sorted_costs first second hf hs h =
    let up = up_to-from first second h in
    let a : int_max first.slope.run (pos 1) ≡ first.slope.run = grind (arith, ints) in
    let b : int_max second.slope.run (pos 1) ≡ second.slope.run = grind (arith, ints) in
    record {
      slope = subst (λ z. z) (λ t. (first.slope.rise *ℤ b t) ≤ℤ (second.slope.rise *ℤ a t)) up.slope;
      source = λ back. up.source (subst (λ z. z) (λ t. (second.slope.rise *ℤ sym a t) ≤ℤ (first.slope.rise *ℤ sym b t)) back);
    }

pub run_positive : (instance : Instance) (order : List Segment) (j : ℕ) → AreInMeritOrder instance order → j < length order → pos 0 <ℤ (segment_at order j).slope.run
run_positive instance order j are h = (are.segments.each j no_segment h).run

-- a watt of the segment's source, which was raised
record IsNewAt (segment : Segment) (more : ℤ) (n : ℕ) (watt : ℤ) : Type 0 where
  here : n ≡ segment.source
  end : watt <ℤ segment.end
  up : pos 0 <ℤ more

-- ---- one segment more
pub step : (instance : Instance) (order : List Segment) (ranges : List Range) (start : Left) (i : ℕ) (old new : List ℤ) (before after : Left)
    → AreInMeritOrder instance order → i < length order
    → ((n : ℕ) → n < source_count instance → IsOpen instance n (range_at ranges n))
    → ((n : ℕ) (watt : ℤ) (slope : Slope) → HasNextSlope instance (source_at instance n) watt slope → pos 0 <ℤ slope.run)
    → IsFilledTo instance order ranges start i old before → IsRaise (renewable_count instance) ranges (segment_at order i) old new before after
    → IsFilledTo instance order ranges start (suc i) new after
step instance order ranges start i old new before after are hi ends runs was raise = record {
  count = raise.count ∙ was.count;
  low = λ n h. omega (arith, linear, was.low n h, rises n);
  high = high;
  sums = sums;
  left = raise.left;
  spent = spent;
  merit = merit;
  ahead = ahead;
}
  where
    segment : Segment
    segment = segment_at order i

    s : ℕ
    s = segment.source

    renewables : ℕ
    renewables = renewable_count instance

    own : IsSegmentOf instance segment
    own = are.segments.each i no_segment hi

    rises : (n : ℕ) → amount_at old n ≤ℤ amount_at new n
    rises n = ⊎_elim
        (λ (same : n ≡ s). subst (λ m. amount_at old m ≤ℤ amount_at new m) (sym same) (omega (arith, linear, raise.up, raise.amount)))
        (λ other. omega (arith, linear, raise.others n other))
        (cases_eq n s)

    none : (m : ℤ) → pos 0 ≤ℤ m → m ≤ℤ pos 0 → m ≡ pos 0
    none m h k = le_antisymm m (pos 0) k h

    high_here : amount_at old s ≤ℤ (range_at ranges s).high → amount_at new s ≤ℤ (range_at ranges s).high
    high_here h = ⊎_elim
        (λ (flat : raise.more ≤ℤ pos 0). omega (arith, linear, raise.amount))
        (λ (up : pos 0 <ℤ raise.more). grind (arith, ints, raise.within up))
        (le_or_lt raise.more (pos 0))

    high : (n : ℕ) → n < source_count instance → amount_at new n ≤ℤ (range_at ranges n).high
    high n h = ⊎_elim
        (λ (same : n ≡ s). subst (λ m. amount_at new m ≤ℤ (range_at ranges m).high) (sym same) (high_here (subst (λ m. amount_at old m ≤ℤ (range_at ranges m).high) same (was.high n h))))
        (λ other. subst (λ z. z ≤ℤ (range_at ranges n).high) (sym (raise.others n other)) (was.high n h))
        (cases_eq n s)

    -- ---- sums
    need_sum : after.need +ℤ sum_below (source_count instance) (amount_at new) ≡ start.need +ℤ sum_below (source_count instance) (λ n. (range_at ranges n).low)
    need_sum =
        let total = sum_below-raised (source_count instance) s (amount_at old) (amount_at new) raise.more own.source raise.amount raise.others in
        (omega (arith, linear, raise.need)) ∙ was.sums.need

    room_free : s < renewables → after.room +ℤ sum_below (thermal_count instance) (thermal_amount instance new)
        ≡ before.room +ℤ sum_below (thermal_count instance) (thermal_amount instance old)
    room_free free =
        let same = sum_below-same (thermal_count instance) (thermal_amount instance new) (thermal_amount instance old)
        (λ g hg. raise.others (renewables + g) (λ e. omega arith)) in
        λ t. raise.free free t +ℤ same t

    room_thermal : renewables ≤ s → after.room +ℤ sum_below (thermal_count instance) (thermal_amount instance new)
        ≡ before.room +ℤ sum_below (thermal_count instance) (thermal_amount instance old)
    room_thermal thermal =
        let place : renewables + (s - renewables) ≡ s = omega arith in
        let total = sum_below-raised (thermal_count instance) (s - renewables) (thermal_amount instance old) (thermal_amount instance new) raise.more
        (omega (arith, own.source))
        (subst (λ m. amount_at new m ≡ amount_at old m +ℤ raise.more) (sym place) raise.amount)
        (λ j ne. raise.others (renewables + j) (λ e. ne (omega arith))) in
        omega (arith, linear, raise.thermal thermal)

    sums : AddsUp instance ranges start after new
    sums = record {
      need = need_sum;
      room = ⊎_elim room_free room_thermal (cases_lt s renewables) ∙ was.sums.room;
    }

    -- ---- what is spent stays so
    full_stays : (other : Segment) → IsFull ranges old other → IsFull ranges new other
    full_stays other h = omega (arith, linear, rises other.source)

    room_stays : before.room ≡ pos 0 → after.room ≡ pos 0
    room_stays e = ⊎_elim (λ free. raise.free free ∙ e) (λ thermal. omega (arith, linear, raise.thermal thermal, raise.up, raise.left.room)) (cases_lt s renewables)

    spent_stays : (other : Segment) → IsSpent renewables before other → IsSpent renewables after other
    spent_stays other h = ⊎_elim (λ need. inl (omega (arith, linear, raise.need, raise.up, raise.left.need))) (λ room. inr (room.0, room_stays room.1)) h

    spent : (j : ℕ) → j < suc i → IsFull ranges new (segment_at order j) ⊎ IsSpent renewables after (segment_at order j)
    spent j h = ⊎_elim
        (λ (early : j < i). ⊎_elim (λ full. inl (full_stays (segment_at order j) full)) (λ gone. inr (spent_stays (segment_at order j) gone)) (was.spent j early))
        (λ (late : i ≤ j). subst (λ k. IsFull ranges new (segment_at order k) ⊎ IsSpent renewables after (segment_at order k)) (omega arith) raise.done)
        (cases_lt j i)

    -- ---- watts
    -- a watt that was taken before, or now by the segment's source
    IsNew : ℕ → ℤ → Type 0
    IsNew n watt = IsNewAt segment raise.more n watt

    parted : (n : ℕ) (watt : ℤ) → IsTaken instance ranges new n watt → IsTaken instance ranges old n watt ⊎ IsNew n watt
    parted n watt taken = ⊎_elim
        (λ (late : amount_at old n ≤ℤ watt). inr (fresh late))
        (λ (early : watt <ℤ amount_at old n). inl (record { source = taken.source; low = taken.low; high = early }))
        (le_or_lt (amount_at old n) watt)
      where
        fresh : amount_at old n ≤ℤ watt → IsNew n watt
        fresh late = ⊎_elim (λ (same : n ≡ s). made same) (λ other. absurd (omega (arith, linear, taken.high, raise.others n other))) (cases_eq n s)
          where
            made : n ≡ s → IsNew n watt
            made same =
                let low : amount_at old s ≤ℤ watt = subst (λ m. amount_at old m ≤ℤ watt) same late in
                let top : watt <ℤ amount_at new s = subst (λ m. watt <ℤ amount_at new m) same taken.high in
                let up : pos 0 <ℤ raise.more = omega (arith, linear, raise.amount) in
                record { here = same; end = grind (arith, ints, raise.within up); up = up }

    -- a new watt costs up to the segment
    new_costs : (n : ℕ) (watt : ℤ) → IsNew n watt → (slope : Slope) → HasNextSlope instance (source_at instance n) watt slope
        → CostsUpTo slope n segment.slope s
    new_costs n watt it slope next = record {
      slope = own.below watt slope it.end (subst (λ m. HasNextSlope instance (source_at instance m) watt slope) it.here next);
      source = λ back. subst (λ m. n ≤ m) it.here (omega arith);
    }

    ahead : (j : ℕ) → suc i ≤ j → j < length order → (n : ℕ) (watt : ℤ) → IsTaken instance ranges new n watt
        → (slope : Slope) → HasNextSlope instance (source_at instance n) watt slope → CostsUpTo slope n (segment_at order j).slope (segment_at order j).source
    ahead j h hj n watt taken slope next = ⊎_elim
        (λ early. was.ahead j (omega arith) hj n watt early slope next)
        (λ late. costs_trans slope segment.slope (segment_at order j).slope n s (segment_at order j).source
        (runs n watt slope next) own.run (run_positive instance order j are hj) (new_costs n watt late slope next)
        (sorted_costs segment (segment_at order j) own.run (run_positive instance order j are hj) (are.sorted i j (omega arith) hj)))
        (parted n watt taken)

    -- nothing is given any more to a source for which nothing is left

    kept : (other : Segment) → IsSpent renewables before other
        → ((n : ℕ) (watt : ℤ) → IsTaken instance ranges old n watt → IsWorth instance other before n watt)
        → (n : ℕ) (watt : ℤ) → IsTaken instance ranges new n watt → IsWorth instance other after n watt
    kept other gone worth n watt taken = ⊎_elim
        (λ early. ⊎_elim (λ costs. inl costs) (λ exempt. inr (exempt.0, exempt.1, room_stays exempt.2)) (worth n watt early))
        (λ late. ⊎_elim
        (λ need. absurd (omega (arith, linear, raise.need, raise.up, raise.left.need, late.up)))
        (λ room. ⊎_elim
        (λ (free : s < renewables). inr (subst (λ m. m < renewables) (sym late.here) free, room.0, room_stays room.1))
        (λ thermal. absurd (omega (arith, linear, raise.thermal thermal, raise.up, raise.left.room, room.1, late.up)))
        (cases_lt s renewables))
        gone)
        (parted n watt taken)

    here_worth : (n : ℕ) (watt : ℤ) → IsTaken instance ranges new n watt → IsWorth instance segment after n watt
    here_worth n watt taken = ⊎_elim
        (λ early. inl (λ slope next. was.ahead i (omega arith) hi n watt early slope next))
        (λ late. inl (λ slope next. new_costs n watt late slope next))
        (parted n watt taken)

    merit : (j : ℕ) → j < suc i → IsFull ranges new (segment_at order j)
        ⊎ ((n : ℕ) (watt : ℤ) → IsTaken instance ranges new n watt → IsWorth instance (segment_at order j) after n watt)
    merit j h = ⊎_elim
        (λ (early : j < i). ⊎_elim
        (λ full. inl (full_stays (segment_at order j) full))
        (λ gone. ⊎_elim (λ full. inl (full_stays (segment_at order j) full)) (λ worth. inr (kept (segment_at order j) gone worth)) (was.merit j early))
        (was.spent j early))
        (λ (late : i ≤ j). subst (λ k. IsFull ranges new (segment_at order k) ⊎ ((n : ℕ) (watt : ℤ) → IsTaken instance ranges new n watt → IsWorth instance (segment_at order k) after n watt))
        (omega arith) (inr here_worth))
        (cases_lt j i)

-- where nothing is needed any more all segments were filled
pub filled_early : (instance : Instance) (order : List Segment) (ranges : List Range) (start : Left) (i : ℕ) (amounts : List ℤ) (rest : Left)
    → IsFilledTo instance order ranges start i amounts rest → rest.need ≤ℤ pos 0 → IsFilledTo instance order ranges start (length order) amounts rest
filled_early instance order ranges start i amounts rest was nought = record {
  count = was.count;
  low = was.low;
  high = was.high;
  sums = was.sums;
  left = was.left;
  spent = λ j h. inr (inl none);
  merit = λ j h. ⊎_elim (was.merit j) (λ late. inr (λ n watt taken. inl (was.ahead j late h n watt taken))) (cases_lt j i);
  ahead = λ j late h. absurd (omega arith);
}
  where
    none : rest.need ≡ pos 0
    none = le_antisymm rest.need (pos 0) nought was.left.need

-- before any segment is filled
pub filled_none : (instance : Instance) (order : List Segment) (ranges : List Range) (start : Left) (amounts : List ℤ)
    → length amounts ≡ source_count instance → ((n : ℕ) → n < source_count instance → IsOpen instance n (range_at ranges n))
    → ((n : ℕ) → n < source_count instance → amount_at amounts n ≡ (range_at ranges n).low) → IsLeft start
    → IsFilledTo instance order ranges start 0 amounts start
filled_none instance order ranges start amounts count opens lows left = grind (arith, ints, sum_below-same, count, opens, lows, left)
