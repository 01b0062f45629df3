-- Units enter a period one by one; and when all have, the period is ready to be filled.
-- Cite by `use Rattle.decommitment.proofs.Entries.{entered_more}`.
use Rattle.std.proofs.Common.{◌≡◌, ℕ, zero, suc, ◌+◌, ◌-◌, ◌*◌, ◌<◌, ◌≤◌, inl, ⊎_elim, Bool, true, false, refl, sym, ap, subst, ◌∙◌, arith, List, ℤ, pos, ◌+ℤ◌, ◌-ℤ◌, ◌*ℤ◌, ◌≤ℤ◌, unsigned_abs, slice_set, get_or-set_other, Option, Some, None, MatchOption, get_or-set_same, w64, to_z, of_z, length}
use Rattle.std.proofs.lemmas.Int.{ints}
use Rattle.std.proofs.lemmas.Bool.{cases_lt}
use Rattle.uc_model.specs.Prelude.{IsLawfulInstance, IsPower, commitment_of, thermal_unit, thermal_count, renewable_count, bit, sum_below}
use Rattle.uc_model.proofs.Common.{linear, mul-one, mul-zero, below_or_last, sum_below-zero, narrow}
use Rattle.dispatch_repair.specs.Prelude.{IsSizedEnd, IsSizedOutput, thermal_amount, Period, Source, FromRenewable, FromThermal, commitment_at, low_of, high_of, renewable_sum, source_at, source_count, HaveRanges, IsFirstObstacle, IsSum}
use Rattle.dispatch_repair.specs.Amounts.{amount_at}
use Rattle.dispatch_repair.specs.Period.{Instance}
use Rattle.uc_model.specs.declared.stuck.Why.{Why}
use Rattle.dispatch_repair.specs.Totals.{MAX_POWER, MAX_UNITS}
use Rattle.dispatch_repair.specs.declared.segment.Segment.{Segment}
use Rattle.dispatch_repair.specs.declared.obstacle.Totals.{Totals}
use Rattle.dispatch_repair.proofs.CurveSegments.{renewable_at, thermal_at}
use Rattle.dispatch_repair.proofs.Merit.{good_renewable}
use Rattle.dispatch_repair.proofs.Places.{thermal_ends}
use Rattle.dispatch_repair.proofs.Reaches.{heads_are, ranges_are, ranges_in}
use Rattle.decommitment.specs.inside.Fills.{AreEntered, Base, Fill, HasSizes, Hour, IsAlike, IsBaseOf, IsBegun, IsEntered, IsHourOf, IsReady, Part, System, base_parts, base_period, exchanged_totals, hour_period, no_part, part_at, unit_part, AreGiven, IsSizedAmount, IsBegunTo, no_given}
use Rattle.decommitment.specs.inside.Levels.{AreAtLevel, IsAtLevel, IsLeastAt}
use Rattle.decommitment.proofs.Givens.{exchanged_sum}
use Rattle.dispatch_repair.proofs.Filled.{max_left}
use Rattle.decommitment.proofs.Levels.{higher}
use Rattle.decommitment.proofs.Steps.{at_most, between}
use Rattle.dispatch_repair.specs.declared.range.Range.{Range}

-- ---- a unit more
-- a sum changes by a term more, and stays small
part_more : (period : Period) (old : ℕ → Part) (g : ℕ) (before middle after : Totals) (pick : Totals → ℤ) (part : Part → ℤ)
    → pick after ≡ pick middle +ℤ (part (part_at period g) -ℤ part (old g))
    → pick middle ≡ pick before +ℤ sum_below g (λ k. part (part_at period k) -ℤ part (old k))
    → pick after ≡ pick before +ℤ sum_below (suc g) (λ k. part (part_at period k) -ℤ part (old k))
part_more period old g before middle after pick part first second = omega (arith, linear, first, second)

wider : (n : ℕ) (after middle new old : ℤ) → after ≡ middle +ℤ (new -ℤ old) → unsigned_abs middle ≤ MAX_UNITS * (3 * MAX_POWER) + n * (6 * MAX_POWER)
    → IsSizedEnd new → IsSizedEnd old → unsigned_abs after ≤ MAX_UNITS * (3 * MAX_POWER) + suc n * (6 * MAX_POWER)
wider n after middle new old is size fresh former = omega (arith, ints, is, size, fresh, former)

pub entered_more : (period : Period) (order : List Segment) (old : ℕ → Part) (g : ℕ) (before middle after : Fill) → HasSizes (old g)
    → AreEntered period order old g before middle → IsEntered period order g (old g) middle after → AreEntered period order old (suc g) before after
entered_more period order old g before middle after sized was more = record {
  ranges = λ k h. ⊎_elim (λ early. was.ranges k early)
      (λ (last : k ≡ g). subst (λ m. low_of period (FromThermal m) ≤ℤ high_of period (FromThermal m)) (sym last) more.range) (below_or_last g k h);
  amounts = λ k h. ⊎_elim
      (λ (early : k < g). subst (IsAtLevel order (renewable_count period.instance + k) before.level (suc before.level) (low_of period (FromThermal k)) (high_of period (FromThermal k)))
      (sym (more.others (renewable_count period.instance + k) (λ e. omega (arith, early, e)))) (was.amounts k early))
      (λ (last : k ≡ g). subst (λ m. IsAtLevel order (renewable_count period.instance + m) before.level (suc before.level) (low_of period (FromThermal m)) (high_of period (FromThermal m))
      (thermal_amount period.instance after.amounts.items m)) (sym last)
      (subst (λ l. IsAtLevel order (renewable_count period.instance + g) l (suc l) (low_of period (FromThermal g)) (high_of period (FromThermal g)) (thermal_amount period.instance after.amounts.items g))
      was.level more.amount))
      (below_or_last g k h);
  later = λ k h. more.others (renewable_count period.instance + k) (λ e. omega (arith, h, e)) ∙ was.later k (omega (arith, h));
  free = λ w h. more.others w (λ e. omega (arith, h, e)) ∙ was.free w h;
  given = more.given;
  level = more.level ∙ was.level;
  totals = record {
    minimums = part_more period old g before.totals middle.totals after.totals (λ t. t.minimums) (λ p. p.minimum) (ap (λ (t : Totals). t.minimums) more.totals) was.totals.minimums;
    thermal_low = part_more period old g before.totals middle.totals after.totals (λ t. t.thermal_low) (λ p. p.reach.range.low) (ap (λ (t : Totals). t.thermal_low) more.totals) was.totals.thermal_low;
    thermal_high = part_more period old g before.totals middle.totals after.totals (λ t. t.thermal_high) (λ p. p.reach.range.high) (ap (λ (t : Totals). t.thermal_high) more.totals) was.totals.thermal_high;
    heads = part_more period old g before.totals middle.totals after.totals (λ t. t.heads) (λ p. p.reach.head) (ap (λ (t : Totals). t.heads) more.totals) was.totals.heads;
    renewable_low = ap (λ (t : Totals). t.renewable_low) more.totals ∙ was.totals.renewable_low;
    renewable_high = ap (λ (t : Totals). t.renewable_high) more.totals ∙ was.totals.renewable_high;
  };
  sizes = grind (arith, ints, wider, g, after, middle, period, old, more, was, sized);
}

-- the same by what came of it
pub renewed : (period : Period) (order : List Segment) (old : ℕ → Part) (g : ℕ) (before middle after : Fill) (found : Option Why) → HasSizes (old g)
    → AreEntered period order old g before middle
    → MatchOption found (IsEntered period order g (old g) middle after) (λ why. HaveRanges period g → IsFirstObstacle period why)
    → MatchOption found (AreEntered period order old (suc g) before after) (IsFirstObstacle period)
renewed period order old g before middle after None sized was more = entered_more period order old g before middle after sized was more
renewed period order old g before middle after (Some why) sized was more = more was.ranges

-- ---- sizes
sized_bit : (z : ℤ) (b : Bool) → IsPower z → IsSizedEnd (z *ℤ bit b)
sized_bit z true power = subst IsSizedEnd (sym (mul-one z)) (omega (arith, power))
sized_bit z false power = subst IsSizedEnd (sym (mul-zero z)) (omega arith)

pub part_sizes : (period : Period) → IsLawfulInstance period.instance → period.t < period.instance.periods
    → ((g : ℕ) → g < thermal_count period.instance → IsSizedOutput (period.before g)) → (g : ℕ) → g < thermal_count period.instance → HasSizes (part_at period g)
part_sizes period lawful within sizes g h =
    let ends = thermal_ends period (ranges_in period) g h (ranges_are period lawful within sizes) in
    let top = heads_are period lawful within sizes g h in
    record {
      minimum = sized_bit (thermal_unit period.instance g).pmin (period.on g period.t) (lawful.thermal g h).minimum.power;
      head = subst IsSizedEnd top.is top.size;
      low = subst IsSizedEnd ends.low ends.low_size;
      high = subst IsSizedEnd ends.high ends.high_size;
    }

-- ---- all units
-- what all units entered with, over the sums of their former parts
module _ (period : Period) (order : List Segment) (old : ℕ → Part) (before after : Fill) (lawful : IsLawfulInstance period.instance)
    (within : period.t < period.instance.periods) (sizes : (g : ℕ) → g < thermal_count period.instance → IsSizedOutput (period.before g))
    (all : AreEntered period order old (thermal_count period.instance) before after) where
  abbrev G : ℕ
  G = thermal_count period.instance

  sized : (g : ℕ) → g < G → HasSizes (part_at period g)
  sized = part_sizes period lawful within sizes

  pub ready_from : ((w : ℕ) → w < renewable_count period.instance → IsAtLevel order w before.level (suc before.level) (low_of period (FromRenewable w))
      (high_of period (FromRenewable w)) (amount_at before.amounts.items w))
      → before.totals.minimums ≡ sum_below G (λ g. (old g).minimum) → before.totals.thermal_low ≡ sum_below G (λ g. (old g).reach.range.low)
      → before.totals.thermal_high ≡ sum_below G (λ g. (old g).reach.range.high) → before.totals.heads ≡ sum_below G (λ g. (old g).reach.head)
      → IsSum before.totals.renewable_low (renewable_sum period (low_of period)) → IsSum before.totals.renewable_high (renewable_sum period (high_of period))
      → IsReady period order after
  ready_from free minimums low high tops free_low free_high = record {
    standing = record { given = all.given; level = level };
    ranges = all.ranges;
    totals = record {
      minimums = exchanged_sum _ _ G (λ g. (part_at period g).minimum) (λ g. (old g).minimum) all.totals.minimums minimums lawful.thermal_units
          (λ g h. (sized g h).minimum);
      thermal_low = exchanged_sum _ _ G (λ g. (part_at period g).reach.range.low) (λ g. (old g).reach.range.low) all.totals.thermal_low low lawful.thermal_units
          (λ g h. (sized g h).low);
      thermal_high = exchanged_sum _ _ G (λ g. (part_at period g).reach.range.high) (λ g. (old g).reach.range.high) all.totals.thermal_high high
          lawful.thermal_units (λ g h. (sized g h).high);
      heads = exchanged_sum _ _ G (λ g. (part_at period g).reach.head) (λ g. (old g).reach.head) all.totals.heads tops lawful.thermal_units
          (λ g h. (sized g h).head);
      renewable_low = subst (λ z. IsSum z (renewable_sum period (low_of period))) (sym all.totals.renewable_low) free_low;
      renewable_high = subst (λ z. IsSum z (renewable_sum period (high_of period))) (sym all.totals.renewable_high) free_high;
    };
  }
    where
      at : ℕ → Source → ℕ → Type 0
      at n s l = IsAtLevel order n l (suc l) (low_of period s) (high_of period s) (amount_at after.amounts.items n)

      renewable : (w : ℕ) → w < renewable_count period.instance → at w (source_at period.instance w) after.level
      renewable w h =
          subst (λ s. at w s after.level) (sym (renewable_at period.instance w h))
          (subst (at w (FromRenewable w)) (sym all.level)
          (subst (IsAtLevel order w before.level (suc before.level) (low_of period (FromRenewable w)) (high_of period (FromRenewable w))) (sym (all.free w h)) (free w h)))

      thermal : (g : ℕ) → g < G → at (renewable_count period.instance + g) (source_at period.instance (renewable_count period.instance + g)) after.level
      thermal g h =
          subst (λ s. at (renewable_count period.instance + g) s after.level) (sym (thermal_at period.instance g))
          (subst (at (renewable_count period.instance + g) (FromThermal g)) (sym all.level) (all.amounts g h))

      level : AreAtLevel period order after.level after.amounts.items
      level n h = ⊎_elim (λ (low : n < renewable_count period.instance). renewable n low)
          (λ (high : renewable_count period.instance ≤ n).
          subst (λ m. at m (source_at period.instance m) after.level) (omega (arith, high)) (thermal (n - renewable_count period.instance) (omega (arith, h, high))))
          (cases_lt n (renewable_count period.instance))

-- from nothing
pub ready_anew : (period : Period) (order : List Segment) (before after : Fill) → IsLawfulInstance period.instance → period.t < period.instance.periods
    → ((g : ℕ) → g < thermal_count period.instance → IsSizedOutput (period.before g)) → IsBegun period before
    → AreEntered period order (λ g. no_part) (thermal_count period.instance) before after → IsReady period order after
ready_anew period order before after lawful within sizes begun all =
    ready_from period order (λ g. no_part) before after lawful within sizes all least (begun.minimums ∙ zero) (begun.thermal_low ∙ zero)
    (begun.thermal_high ∙ zero) (begun.heads ∙ zero) begun.renewable_low begun.renewable_high
  where
    zero : pos 0 ≡ sum_below (thermal_count period.instance) (λ g. pos 0)
    zero = sym (sum_below-zero (thermal_count period.instance) (λ g. pos 0) (λ k h. refl))

    bottom : (w : ℕ) → w < renewable_count period.instance
        → IsAtLevel order w 0 1 (low_of period (FromRenewable w)) (high_of period (FromRenewable w)) (low_of period (FromRenewable w))
    bottom w h = record {
      low_end = omega (arith, linear);
      high_end = (good_renewable period w lawful within h).order;
      full = λ j early inside its. absurd (omega (arith, early));
      taken = inl (omega (arith, linear));
    }

    least : (w : ℕ) → w < renewable_count period.instance → IsAtLevel order w before.level (suc before.level) (low_of period (FromRenewable w))
        (high_of period (FromRenewable w)) (amount_at before.amounts.items w)
    least w h =
        subst (λ l. IsAtLevel order w l (suc l) (low_of period (FromRenewable w)) (high_of period (FromRenewable w)) (amount_at before.amounts.items w)) (sym begun.level)
        (subst (IsAtLevel order w 0 1 (low_of period (FromRenewable w)) (high_of period (FromRenewable w))) (sym (begun.lows w h)) (bottom w h))

pub no_sizes : HasSizes no_part
no_sizes = record { minimum = omega arith; head = omega arith; low = omega arith; high = omega arith }

-- ---- a unit's parts, as they are read
-- the parts of a unit after what is read of the period before
pub part_read : (system : System) (hour : Hour) → IsHourOf system hour → (g m : ℕ) (part : Part) → g < thermal_count system.instance.now
    → m ≡ renewable_count system.instance.now
    → part ≡ unit_part system.instance.now g (commitment_at hour.patterns.now g) hour.t (to_z w64 (of_z w64 (amount_at hour.before.now (m + g))))
    → part ≡ part_at (hour_period system hour) g
part_read system hour of g m part h count is =
    let instance = system.instance.now in
    let on = commitment_at hour.patterns.now g in
    is ∙ (λ i. unit_part instance g on hour.t (to_z w64 (of_z w64 (amount_at hour.before.now (count i + g)))))
    ∙ ap (unit_part instance g on hour.t) (narrow (amount_at hour.before.now (renewable_count instance + g)) (2 * MAX_POWER) (of.before.sizes g h) (omega arith))

module _ (period : Period) (g : ℕ) (part : Part) (is : part ≡ part_at period g) (sizes : HasSizes part) where
  pub low_is : part.reach.range.low ≡ low_of period (FromThermal g)
  low_is = ap (λ (p : Part). p.reach.range.low) is

  pub high_is : part.reach.range.high ≡ high_of period (FromThermal g)
  high_is = ap (λ (p : Part). p.reach.range.high) is

  pub least_sized : (order : List Segment) (n level : ℕ) (least : ℤ) → IsLeastAt order n level part.reach.range least → IsSizedAmount least
  least_sized order n level least at =
      between least part.reach.range.low part.reach.range.high (subst (λ z. pos 0 ≤ℤ z) (sym low_is) (max_left (pos 0) (period.before g -ℤ (thermal_unit period.instance g).rd))) at.low_end at.high_end
      (at_most part.reach.range.high sizes.high)

  pub entered : (order : List Segment) (old : Part) (before after : Fill) (least : ℤ) → g < thermal_count period.instance
      → AreGiven period.instance before.amounts.items before.given → part.reach.range.low ≤ℤ part.reach.range.high
      → IsLeastAt order (renewable_count period.instance + g) before.level part.reach.range least
      → after.amounts.items ≡ slice_set before.amounts.items (renewable_count period.instance + g) least
      → AreGiven period.instance after.amounts.items after.given → after.level ≡ before.level → after.totals ≡ exchanged_totals before.totals old part
      → IsEntered period order g old before after
  entered order old before after least h given some at amounts sums level totals = record {
    range = subst (λ z. z) (λ i. low_is i ≤ℤ high_is i) some;
    sizes = subst HasSizes is sizes;
    amount = subst (IsAtLevel order (renewable_count period.instance + g) before.level (suc before.level) (low_of period (FromThermal g)) (high_of period (FromThermal g))) (sym here)
        (higher order (renewable_count period.instance + g) before.level before.level (low_of period (FromThermal g)) (high_of period (FromThermal g)) least (suc before.level) (omega arith)
        (subst (λ z. z) (λ i. IsAtLevel order (renewable_count period.instance + g) before.level before.level (low_is i) (high_is i) least) at));
    others = λ m other. ap (λ xs. amount_at xs m) amounts ∙ get_or-set_other before.amounts.items (renewable_count period.instance + g) m least (pos 0) other;
    given = sums;
    level = level;
    totals = totals ∙ ap (exchanged_totals before.totals old) is;
  }
    where
      here : amount_at after.amounts.items (renewable_count period.instance + g) ≡ least
      here = ap (λ xs. amount_at xs (renewable_count period.instance + g)) amounts ∙ get_or-set_same before.amounts.items (renewable_count period.instance + g) least (pos 0) (omega (arith, h, given.count))

-- ---- from nothing up to the thermal units
-- amounts of 0 add up to nothing
pub cleared : (instance : Instance) (amounts : List ℤ) → length amounts ≡ source_count instance
    → ((n : ℕ) → n < length amounts → amount_at amounts n ≡ pos 0) → AreGiven instance amounts no_given
cleared instance amounts count none = grind (arith, ints, sum_below-zero, count, none)

-- the size of a sum with a term more
sum_wider : (w : ℕ) (next sum term : ℤ) → next ≡ sum +ℤ term → unsigned_abs sum ≤ w * (3 * MAX_POWER) → IsSizedEnd term
    → unsigned_abs next ≤ suc w * (3 * MAX_POWER)
sum_wider w next sum term is size sized = omega (arith, ints, is, size, sized)

pub begun_more : (period : Period) (w : ℕ) (sums next range : Range) (before after : Fill) → w < renewable_count period.instance
    → IsBegunTo period w sums before → range.low ≡ low_of period (FromRenewable w) → range.high ≡ high_of period (FromRenewable w) → IsSizedEnd range.low
    → IsSizedEnd range.high → next.low ≡ sums.low +ℤ range.low → next.high ≡ sums.high +ℤ range.high
    → after.amounts.items ≡ slice_set before.amounts.items w range.low → AreGiven period.instance after.amounts.items after.given
    → after.level ≡ before.level → after.totals ≡ before.totals → IsBegunTo period (suc w) next after
begun_more period w sums next range before after h was low high low_sized high_sized low_sum high_sum amounts given level totals =
    grind (arith, ints, get_or-set_other, get_or-set_same, below_or_last, sum_wider, h, was, low_sized, high_sized, low_sum, high_sum)

-- ---- from a commitment that differs in one unit
module _ (system : System) (hour : Hour) (base : Base) (of : IsHourOf system hour) (from : IsBaseOf system hour base) where
  abbrev instance : Instance
  instance = system.instance.now

  abbrev order : List Segment
  order = system.merit.now.order.items

  abbrev period : Period
  period = hour_period system hour

  abbrev former : Period
  former = base_period system hour base

  abbrev fill : Fill
  fill = base.fill.now

  pub former_sizes : (g : ℕ) → g < thermal_count instance → HasSizes (part_at former g)
  former_sizes = part_sizes former from.fill.was.lawful from.fill.was.period from.fill.was.sizes

  -- the base's amounts are at its level
  level_at : (n : ℕ) (s : Source) → n < source_count instance → source_at instance n ≡ s
      → IsAtLevel order n fill.level (suc fill.level) (low_of former s) (high_of former s) (amount_at fill.amounts.items n)
  level_at n s h is =
      subst (λ r. IsAtLevel order n fill.level (suc fill.level) (low_of former r) (high_of former r) (amount_at fill.amounts.items n)) is
      (from.fill.ready.standing.level n h)

  -- a unit that is alike has the same parts
  module _ (g : ℕ) (now : Fill) (h : g < thermal_count instance) (alike : IsAlike hour base g (renewable_count instance + g))
      (was : AreEntered period order (base_parts system hour base) g fill now) where
    same_pattern : commitment_at (slice_set hour.patterns.now base.g base.stood) g ≡ commitment_at hour.patterns.now g
    same_pattern = ap commitment_of (get_or-set_other hour.patterns.now base.g g base.stood (record { low = 0; high = 0 }) alike.other)

    same : part_at former g ≡ part_at period g
    same = λ i. unit_part instance g (same_pattern i) hour.t (sym alike.before i)

    stays : IsAtLevel order (renewable_count instance + g) fill.level (suc fill.level) (low_of period (FromThermal g)) (high_of period (FromThermal g))
        (thermal_amount instance now.amounts.items g)
    stays =
        subst (IsAtLevel order (renewable_count instance + g) fill.level (suc fill.level) (low_of period (FromThermal g)) (high_of period (FromThermal g)))
        (sym (was.later g (omega arith)))
        (subst (λ (p : Part). IsAtLevel order (renewable_count instance + g) fill.level (suc fill.level) p.reach.range.low p.reach.range.high (thermal_amount instance fill.amounts.items g))
        same (level_at (renewable_count instance + g) (FromThermal g) (omega (arith, h)) (thermal_at instance g)))

    -- a part that is exchanged for itself changes nothing
    nothing : (z x : ℤ) → z ≡ z +ℤ (x -ℤ x)
    nothing z x = omega (arith, linear)

    still : (totals : Totals) (part : Part) → totals ≡ exchanged_totals totals part part
    still totals part = λ i. record totals {
      minimums = nothing totals.minimums part.minimum i;
      thermal_low = nothing totals.thermal_low part.reach.range.low i;
      thermal_high = nothing totals.thermal_high part.reach.range.high i;
      heads = nothing totals.heads part.reach.head i;
    }

    pub entered_alike : AreEntered period order (base_parts system hour base) (suc g) fill now
    entered_alike = entered_more period order (base_parts system hour base) g fill now now (former_sizes g h) was (record {
      range = subst (λ (p : Part). p.reach.range.low ≤ℤ p.reach.range.high) same (from.fill.ready.ranges g h);
      sizes = subst HasSizes same (former_sizes g h);
      amount = subst (λ l. IsAtLevel order (renewable_count instance + g) l (suc l) (low_of period (FromThermal g)) (high_of period (FromThermal g))
          (thermal_amount instance now.amounts.items g)) (sym was.level) stays;
      others = λ n other. refl;
      given = was.given;
      level = refl;
      totals = subst (λ (p : Part). now.totals ≡ exchanged_totals now.totals (part_at former g) p) same (still now.totals (part_at former g));
    })

  -- nor does a stretch of such units change anything
  pub entered_alike_from : (first n : ℕ) (now : Fill) → first + n ≤ thermal_count instance
      → ((g : ℕ) → first ≤ g → g < first + n → IsAlike hour base g (renewable_count instance + g))
      → AreEntered period order (base_parts system hour base) first fill now → AreEntered period order (base_parts system hour base) (first + n) fill now
  entered_alike_from first zero now within alike was = subst (λ k. AreEntered period order (base_parts system hour base) k fill now) (omega arith) was
  entered_alike_from first (suc n) now within alike was =
      subst (λ k. AreEntered period order (base_parts system hour base) k fill now) (omega arith)
      (entered_alike (first + n) now (omega (arith, within)) (alike (first + n) (omega arith) (omega arith))
      (entered_alike_from first n now (omega (arith, within)) (λ g low high. alike g low (omega (arith, high))) was))

  pub ready_again : (now : Fill) → AreEntered period order (base_parts system hour base) (thermal_count instance) fill now → IsReady period order now
  ready_again now all =
      ready_from period order (base_parts system hour base) fill now of.before.lawful of.before.period of.before.sizes all
      (λ w h. level_at w (FromRenewable w) (omega (arith, h)) (renewable_at instance w h))
      from.fill.ready.totals.minimums.is from.fill.ready.totals.thermal_low.is from.fill.ready.totals.thermal_high.is from.fill.ready.totals.heads.is
      from.fill.ready.totals.renewable_low from.fill.ready.totals.renewable_high
