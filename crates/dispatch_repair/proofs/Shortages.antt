-- What a dispatch sheds and lacks: the rest can be filled, and each is within the limits of M16 and M17.
-- Cite by `use Rattle.dispatch_repair.proofs.Shortages.{fillable, shed_part}`.
use Rattle.std.proofs.Common.{◌≡◌, ℕ, ◌<◌, ◌≤◌, ◌⊎◌, inl, inr, ⊎_elim, true, false, refl, sym, ap, subst, ◌∙◌, arith, nat_lt, ◌==◌, ◌&&◌, List, length, ℤ, pos, ◌+ℤ◌, ◌-ℤ◌, ◌≤ℤ◌, ◌<ℤ◌}
use Rattle.std.specs.Int.{int_max}
use Rattle.std.proofs.lemmas.Int.{ints}
use Rattle.std.proofs.lemmas.Bool.{cond-true, cond-false, and_parts, cases_lt, eqb-true, false_from_ne_true, lt-ltb, ltb-true}
use Rattle.std.proofs.lemmas.List.Elements.{All-get_or}
use Rattle.uc_model.specs.Prelude.{bit, IsLawfulInstance, IsPower, shed_at, short_at, thermal_unit, thermal_count, renewable_count, demand_at, reserve_at}
use Rattle.uc_model.proofs.Common.{linear, le_or_lt, le_trans, mul_nonneg, sum_below_nonneg, sum_below-le, bit_nonneg}
use Rattle.dispatch_repair.specs.Prelude.{Instance, Pattern, Printed, Period, output_before, Source, FromRenewable, FromThermal, low_of, high_of, thermal_sum, renewable_sum, total_output, demand_of, need_of, reserve_room, served, unmet, lacking, shed_of, short_of, IsInMeritOrder, period_after, IsFilled, HaveRanges, IsFree, Range, AreHeadsOf, AreRangesOf, Shortage, AreShortages, IsDispatchedFrom, served_by, Left, PeriodStart, IsFillable, IsFilledTo, IsFirstLeft, IsStart, Totals, AreTotalsOf, IsSizedLeft, Segment, AreInMeritOrder}
use Rattle.dispatch_repair.specs.Period.{heads, minimums}
use Rattle.dispatch_repair.proofs.Filled.{filled_period, max_left, max_right}
use Rattle.dispatch_repair.proofs.Merit.{IsFilledUp, first_need, first_room, good_renewable, high-le-head, in_merit_order, width_size}

-- ---- what demand and need have no part in
pub ranges_served : (period : Period) (shed short : ℤ) (ranges : List Range) → AreRangesOf period ranges → AreRangesOf (served period shed short) ranges
ranges_served period shed short ranges are = grind (arith, ints, are)

pub totals_served : (period : Period) (shed short : ℤ) (totals : Totals) → AreTotalsOf period totals → AreTotalsOf (served period shed short) totals
totals_served period shed short totals are = grind (arith, ints, are)

-- ---- numbers
-- the room for reserve beside an output, and the reserve that lacks it
abbrev room : ℤ → ℤ → ℤ → ℤ
room tops lows given = tops -ℤ int_max lows given

abbrev lack : ℤ → ℤ → ℤ
lack need space = int_max (need -ℤ space) (pos 0)

room_nonneg : (tops lows given : ℤ) → lows ≤ℤ tops → given ≤ℤ tops → pos 0 ≤ℤ room tops lows given
room_nonneg tops lows given h k = grind (arith, ints, h, k)

kept_room : (need space : ℤ) → (need -ℤ lack need space) ≤ℤ space
kept_room need space = grind (arith, ints)

-- the parts of a greatest number
pub max_le : (a b c : ℤ) → a ≤ℤ c → b ≤ℤ c → int_max a b ≤ℤ c
max_le a b c h k = grind (arith, ints, h, k)

max_low : (a b : ℤ) → a ≤ℤ b → int_max a b ≡ b
max_low a b h = grind (arith, ints, h)

max_high : (a b : ℤ) → b ≤ℤ a → int_max a b ≡ a
max_high a b h = grind (arith, ints, h)

max_up : (a b : ℤ) → a <ℤ int_max a b → int_max a b ≡ b
max_up a b h = grind (arith, ints, h)

-- demand that gives way to reserve is none, or leaves the thermal units all but the reserve
made : (tops lows given need part : ℤ) → part ≡ lack need (room tops lows given) → need ≤ℤ (tops -ℤ lows)
    → ((part ≡ pos 0) × (need ≤ℤ room tops lows given)) ⊎ ((given -ℤ part) ≡ (tops -ℤ need))
made tops lows given need part e h = ⊎_elim
    (λ (up : need ≤ℤ room tops lows given). inl (e ∙ max_low (need -ℤ room tops lows given) (pos 0) (omega (arith, linear, up)), up))
    (λ (less : room tops lows given <ℤ need).
    let whole = e ∙ max_high (need -ℤ room tops lows given) (pos 0) (omega (arith, linear, less)) in
    let top = max_up lows given (omega (arith, linear, less, h)) in
    inr (omega (arith, linear, whole, top)))
    (le_or_lt need (room tops lows given))

made_room : (tops lows given need part : ℤ) → part ≡ lack need (room tops lows given) → need ≤ℤ (tops -ℤ lows) → need ≤ℤ room tops lows (given -ℤ part)
made_room tops lows given need part e h = ⊎_elim
    (λ (none : (part ≡ pos 0) × (need ≤ℤ room tops lows given)).
    let same : given -ℤ part ≡ given = omega (arith, linear, none.0) in
    subst (λ z. need ≤ℤ room tops lows z) (sym same) none.1)
    (λ (left : given -ℤ part ≡ tops -ℤ need).
    let top = max_low lows (given -ℤ part) (omega (arith, linear, left, h)) in
    omega (arith, linear, top, left))
    (made tops lows given need part e h)

made_above : (tops lows given need part : ℤ) → part ≡ lack need (room tops lows given) → need ≤ℤ (tops -ℤ lows)
    → (part ≡ pos 0) ⊎ (lows ≤ℤ (given -ℤ part))
made_above tops lows given need part e h = grind (arith, ints, made, e, h)

-- the same demand leaves the same room
same_room : (tops lows given other need : ℤ) → other ≡ given → need ≤ℤ room tops lows given → (need -ℤ pos 0) ≤ℤ room tops lows other
same_room tops lows given other need e h = grind (arith, ints, e, h)

lack_within : (need space : ℤ) → pos 0 ≤ℤ space → lack need space ≤ℤ int_max need (pos 0)
lack_within need space h = grind (arith, ints, h)

-- a part of a demand or a need that may be missing, at a price
pub record IsPart (price : ℕ) (whole part : ℤ) : Type 0 where
  pub low : pos 0 ≤ℤ part
  pub high : part ≤ℤ int_max whole (pos 0)
  pub none : price ≡ 0 → part ≡ pos 0

-- ---- prices
-- there is a price, or none
pub price_cases : (price : ℕ) → (nat_lt 0 price ≡ true) ⊎ (price ≡ 0)
price_cases price = ⊎_elim (λ (some : 0 < price). inl (lt-ltb 0 price some)) (λ (none : price ≤ 0). inr (omega (arith, none))) (cases_lt 0 price)

-- the sums of the least outputs aren't negative
pub record HasLowSums (period : Period) : Type 0 where
  pub thermal : pos 0 ≤ℤ thermal_sum period (low_of period)
  pub all : pos 0 ≤ℤ total_output period (low_of period)

module _ (period : Period) where
  unmet_priced : nat_lt 0 period.instance.a ≡ true → unmet period ≡ int_max (demand_of period -ℤ total_output period (high_of period)) (pos 0)
  unmet_priced some = cond-true _ _ _ some

  unmet_none : period.instance.a ≡ 0 → unmet period ≡ pos 0
  unmet_none none = cond-false _ _ _ (ap (nat_lt 0) none)

  unmet_nonneg : pos 0 ≤ℤ unmet period
  unmet_nonneg = ⊎_elim
      (λ some. omega (arith, linear, unmet_priced some, max_right (demand_of period -ℤ total_output period (high_of period)) (pos 0)))
      (λ none. omega (arith, linear, unmet_none none))
      (price_cases period.instance.a)

  lacking_nonneg : pos 0 ≤ℤ lacking period
  lacking_nonneg = max_right (need_of period -ℤ reserve_room (served period (unmet period) (pos 0))) (pos 0)

  -- which of the shortages there are
  data HasShortages : Type 0 where
    keeps_demand : shed_of period ≡ unmet period → short_of period ≡ lacking period → HasShortages
    keeps_reserve : period.instance.b ≡ 0 → nat_lt 0 period.instance.a ≡ true → shed_of period ≡ unmet period +ℤ lacking period → short_of period ≡ pos 0 → HasShortages
    keeps_both : period.instance.b ≡ 0 → period.instance.a ≡ 0 → shed_of period ≡ pos 0 → short_of period ≡ pos 0 → HasShortages

  shortages : HasShortages
  shortages = ⊎_elim
      (λ held. keeps_demand (cond-false _ _ _ (priced_reserve held)) (cond-true _ _ _ held))
      (λ (free : period.instance.b ≡ 0). ⊎_elim
      (λ some. keeps_reserve free some (cond-true _ _ _ ((λ i. some i && free i == 0))) (cond-false _ _ _ (ap (nat_lt 0) free)))
      (λ (none : period.instance.a ≡ 0). keeps_both free none
      (cond-false _ _ _ ((λ i. nat_lt 0 (none i) && period.instance.b == 0)) ∙ unmet_none none)
      (cond-false _ _ _ (ap (nat_lt 0) free)))
      (price_cases period.instance.a))
      (price_cases period.instance.b)
    where
      priced_reserve : nat_lt 0 period.instance.b ≡ true → (nat_lt 0 period.instance.a && period.instance.b == 0) ≡ false
      priced_reserve held =
          false_from_ne_true (nat_lt 0 period.instance.a && period.instance.b == 0) (λ yes.
          let none = eqb-true period.instance.b 0 (and_parts (nat_lt 0 period.instance.a) (period.instance.b == 0) yes).1 in
          let some = ltb-true 0 period.instance.b held in
          omega (arith, none, some))

  pub shed_nonneg : pos 0 ≤ℤ shed_of period
  shed_nonneg = by shortages
    where
      by : HasShortages → pos 0 ≤ℤ shed_of period
      by (keeps_demand shed short) = omega (arith, linear, shed, unmet_nonneg)
      by (keeps_reserve unpriced some shed short) = omega (arith, linear, shed, unmet_nonneg, lacking_nonneg)
      by (keeps_both unpriced none shed short) = omega (arith, linear, shed)

  pub shed_none : period.instance.a ≡ 0 → shed_of period ≡ pos 0
  shed_none none = by shortages
    where
      by : HasShortages → shed_of period ≡ pos 0
      by (keeps_demand shed short) = shed ∙ unmet_none none
      by (keeps_reserve unpriced some shed short) = absurd (let priced = ltb-true 0 period.instance.a some in omega arith)
      by (keeps_both unpriced free shed short) = shed

  pub short_none : period.instance.b ≡ 0 → short_of period ≡ pos 0
  short_none none = cond-false _ _ _ (ap (nat_lt 0) none)

  -- ---- sums
  module _ (lawful : IsLawfulInstance period.instance) (within : period.t < period.instance.periods)
      (ranges : HaveRanges period (thermal_count period.instance)) where
    lows_nonneg : pos 0 ≤ℤ thermal_sum period (low_of period)
    lows_nonneg = sum_below_nonneg (thermal_count period.instance) _ (λ g hg. max_left (pos 0) (period.before g -ℤ (thermal_unit period.instance g).rd))

    lows-le : thermal_sum period (low_of period) ≤ℤ thermal_sum period (high_of period)
    lows-le = sum_below-le (thermal_count period.instance) _ _ (λ g hg. ranges g hg)

    tops-le : thermal_sum period (high_of period) ≤ℤ heads period
    tops-le = sum_below-le (thermal_count period.instance) _ _ (λ g hg. high-le-head period g)

    free_nonneg : pos 0 ≤ℤ renewable_sum period (low_of period)
    free_nonneg = sum_below_nonneg (renewable_count period.instance) _ (λ w hw. (good_renewable period w lawful within hw).low)

    free-le : renewable_sum period (low_of period) ≤ℤ renewable_sum period (high_of period)
    free-le = sum_below-le (renewable_count period.instance) _ _ (λ w hw. (good_renewable period w lawful within hw).order)

    minimums_nonneg : pos 0 ≤ℤ minimums period
    minimums_nonneg =
        sum_below_nonneg (thermal_count period.instance) _ (λ g hg.
        mul_nonneg (thermal_unit period.instance g).pmin (bit (period.on g period.t)) (lawful.thermal g hg).minimum.low (bit_nonneg (period.on g period.t)))

    -- Cite by `use Rattle.dispatch_repair.proofs.Shortages.{low_sums}`.
    pub low_sums : HasLowSums period
    low_sums = record { thermal = lows_nonneg; all = omega (arith, linear, minimums_nonneg, lows_nonneg, free_nonneg) }

    -- what the thermal units have to give of the demand that is left where the renewable ones give the most
    abbrev asked : ℤ
    asked = demand_of (served period (unmet period) (pos 0)) -ℤ minimums period -ℤ renewable_sum period (high_of period)

    -- ---- a period without an obstacle
    module _ (free : IsFree period) where
      unmet_within : ((demand_of period -ℤ unmet period) ≤ℤ total_output period (high_of period)) × (total_output period (low_of period) ≤ℤ (demand_of period -ℤ unmet period))
      unmet_within = ⊎_elim
          (λ some. priced (demand_of period) (total_output period (low_of period)) (total_output period (high_of period)) (unmet period) (unmet_priced some) free.balance.least
          (omega (arith, linear, lows-le, free-le)))
          (λ none. (omega (arith, linear, unmet_none none, free.balance.most none), omega (arith, linear, unmet_none none, free.balance.least)))
          (price_cases period.instance.a)
        where
          priced : (demand least most part : ℤ) → part ≡ int_max (demand -ℤ most) (pos 0) → least ≤ℤ demand → least ≤ℤ most
              → ((demand -ℤ part) ≤ℤ most) × (least ≤ℤ (demand -ℤ part))
          priced demand least most part e h k = (
            omega (arith, linear, e, max_left (demand -ℤ most) (pos 0)),
            omega (arith, linear, e, max_le (demand -ℤ most) (pos 0) (demand -ℤ least) (omega (arith, linear, k)) (omega (arith, linear, h))),
          )

      -- for the demand and the need that are kept
      by_kept : (shed short : ℤ) → (demand_of period -ℤ shed) ≤ℤ total_output period (high_of period) → total_output period (low_of period) ≤ℤ (demand_of period -ℤ shed)
          → (need_of period -ℤ short) ≤ℤ reserve_room (served period shed short) → IsFillable (served period shed short)
      by_kept shed short most least reserve = record { ranges = free.balance.ranges; least = least; most = most; reserve = reserve }

      by_shortages : HasShortages → IsFillable (served period (shed_of period) (short_of period))
      by_shortages (keeps_demand shed short) =
          subst (λ z. z) (λ i. IsFillable (served period (sym shed i) (sym short i)))
          (by_kept (unmet period) (lacking period) unmet_within.0 unmet_within.1 (kept_room (need_of period) (reserve_room (served period (unmet period) (pos 0)))))
      by_shortages (keeps_both unpriced none shed short) =
          let nothing = unmet_none none in
          let whole : need_of period ≤ℤ reserve_room period = subst (λ z. need_of period ≤ℤ z) (cond-false _ _ _ (ap (nat_lt 0) none)) (free.reserve unpriced) in
          subst (λ z. z) (λ i. IsFillable (served period (sym shed i) (sym short i)))
          (by_kept (pos 0) (pos 0) (omega (arith, linear, nothing, unmet_within.0)) (omega (arith, linear, nothing, unmet_within.1))
          (same_room (heads period) (thermal_sum period (low_of period)) (demand_of period -ℤ minimums period -ℤ renewable_sum period (high_of period)) _ (need_of period)
          (omega (arith, linear)) whole))
      by_shortages (keeps_reserve unpriced some shed short) =
          let lows = thermal_sum period (low_of period) in
          let whole : need_of period ≤ℤ (heads period -ℤ lows) = subst (λ z. need_of period ≤ℤ z) (cond-true _ _ _ some) (free.reserve unpriced) in
          let above = made_above (heads period) lows asked (need_of period) (lacking period) refl whole in
          let least : total_output period (low_of period) ≤ℤ (demand_of period -ℤ (unmet period +ℤ lacking period)) =
          ⊎_elim (λ none. omega (arith, linear, none, unmet_within.1)) (λ up. omega (arith, linear, up, free-le)) above in
          subst (λ z. z) (λ i. IsFillable (served period (sym shed i) (sym short i)))
          (by_kept (unmet period +ℤ lacking period) (pos 0) (omega (arith, linear, unmet_within.0, lacking_nonneg)) least
          (same_room (heads period) lows (asked -ℤ lacking period) _ (need_of period) (omega (arith, linear))
          (made_room (heads period) lows asked (need_of period) (lacking period) refl whole)))

      pub fillable : IsFillable (served period (shed_of period) (short_of period))
      fillable = by_shortages shortages

    -- ---- within the limits
    module _ (served_well : IsFillable (served period (shed_of period) (short_of period))) where
      least_nonneg : pos 0 ≤ℤ total_output period (low_of period)
      least_nonneg = omega (arith, linear, minimums_nonneg, lows_nonneg, free_nonneg)

      -- what is served isn't below nothing
      shed-le : shed_of period ≤ℤ demand_of period
      shed-le = omega (arith, linear, served_well.least, least_nonneg)

      pub shed_part : IsPart period.instance.a (demand_of period) (shed_of period)
      shed_part = record {
        low = shed_nonneg;
        high = omega (arith, linear, shed-le, max_left (demand_of period) (pos 0));
        none = shed_none;
      }

      pub short_part : IsPart period.instance.b (need_of period) (short_of period)
      short_part = by shortages
        where
          nothing : short_of period ≡ pos 0 → IsPart period.instance.b (need_of period) (short_of period)
          nothing short = record {
            low = omega (arith, linear, short);
            high = omega (arith, linear, short, max_right (need_of period) (pos 0));
            none = λ none. short;
          }

          by : HasShortages → IsPart period.instance.b (need_of period) (short_of period)
          by (keeps_demand shed short) =
              let given : asked ≤ℤ heads period = omega (arith, linear, served_well.most, shed, tops-le) in
              let beside = room_nonneg (heads period) (thermal_sum period (low_of period)) asked (omega (arith, linear, lows-le, tops-le)) given in
              record {
                low = omega (arith, linear, short, lacking_nonneg);
                high = subst (λ z. z ≤ℤ int_max (need_of period) (pos 0)) (sym short) (lack_within (need_of period) _ beside);
                none = short_none;
              }
          by (keeps_reserve unpriced some shed short) = nothing short
          by (keeps_both unpriced none shed short) = nothing short

-- ---- a filled period
-- what merit order meets can be filled
pub merit_fillable : (period : Period) (amount : Source → ℤ) → IsInMeritOrder period amount → IsFillable period
merit_fillable period amount merit = record {
  ranges = λ g hg. le_trans _ _ _ (merit.low (FromThermal g) hg) (merit.high (FromThermal g) hg);
  least = omega (arith, linear, thermal_least, renewable_least, merit.demand);
  most = omega (arith, linear, thermal_most, renewable_most, merit.demand);
  reserve = beside (heads period) (thermal_sum period (low_of period)) (demand_of period -ℤ minimums period -ℤ renewable_sum period (high_of period)) (need_of period)
      (thermal_sum period amount) thermal_least (omega (arith, linear, renewable_most, merit.demand)) merit.limit;
}
  where
    thermal_least : thermal_sum period (low_of period) ≤ℤ thermal_sum period amount
    thermal_least = sum_below-le (thermal_count period.instance) _ _ (λ g hg. merit.low (FromThermal g) hg)

    thermal_most : thermal_sum period amount ≤ℤ thermal_sum period (high_of period)
    thermal_most = sum_below-le (thermal_count period.instance) _ _ (λ g hg. merit.high (FromThermal g) hg)

    renewable_least : renewable_sum period (low_of period) ≤ℤ renewable_sum period amount
    renewable_least = sum_below-le (renewable_count period.instance) _ _ (λ w hw. merit.low (FromRenewable w) hw)

    renewable_most : renewable_sum period amount ≤ℤ renewable_sum period (high_of period)
    renewable_most = sum_below-le (renewable_count period.instance) _ _ (λ w hw. merit.high (FromRenewable w) hw)

    beside : (tops lows given need used : ℤ) → lows ≤ℤ used → given ≤ℤ used → used ≤ℤ (tops -ℤ int_max need (pos 0)) → need ≤ℤ room tops lows given
    beside tops lows given need used h k l = grind (arith, ints, h, k, l)

module _ (instance : Instance) (patterns : List Pattern) (printed : Printed) (t : ℕ) (lawful : IsLawfulInstance instance) (within : t < instance.periods)
    (filled : IsFilled instance patterns printed t) where
  abbrev whole_period : Period
  whole_period = period_after instance patterns t (λ g. output_before instance printed g t)

  well : IsFillable (served whole_period (shed_of whole_period) (short_of whole_period))
  well =
      subst (λ z. z) (λ i. IsFillable (served whole_period (filled.unserved i) (filled.missing i)))
      (merit_fillable (filled_period instance patterns printed t) _ filled.merit)

  -- what is missing is within the limits of M16 and M17
  pub filled_shed : IsPart instance.a (demand_at instance t) (shed_at printed t)
  filled_shed = subst (IsPart instance.a (demand_at instance t)) (sym filled.unserved) (shed_part whole_period lawful within well.ranges well)

  pub filled_short : IsPart instance.b (reserve_at instance t) (short_at printed t)
  filled_short = subst (IsPart instance.b (reserve_at instance t)) (sym filled.missing) (short_part whole_period lawful within well.ranges well)

-- what is kept of a need is a power
power_left : (need part : ℤ) → IsPower need → pos 0 ≤ℤ part → part ≤ℤ int_max need (pos 0) → IsPower (need -ℤ part)
power_left need part power low high = grind (arith, ints, power, low, high)

pub kept_size : (instance : Instance) (patterns : List Pattern) (t : ℕ) (before : ℕ → ℤ) (shortage : Shortage) → IsLawfulInstance instance → t < instance.periods
    → AreShortages (period_after instance patterns t before) shortage → IsFillable (served_by (period_after instance patterns t before) shortage)
    → IsPower (reserve_at instance t -ℤ shortage.short)
kept_size instance patterns t before shortage lawful within are well =
    let period = period_after instance patterns t before in
    let served_well : IsFillable (served period (shed_of period) (short_of period)) =
    subst (λ z. z) (λ i. IsFillable (served period (are.shed i) (are.short i))) well in
    let part = short_part period lawful within well.ranges served_well in
    subst (λ z. IsPower (reserve_at instance t -ℤ z)) (sym are.short)
    (power_left (reserve_at instance t) (short_of period)
    (All-get_or IsPower instance.reserves t (pos 0) (subst (λ n. t < n) (sym lawful.reserves_length) within) lawful.reserves) part.low part.high)

-- ---- from an obstacle's absence to a dispatch
-- what a period without an obstacle is filled from
pub started : (period : Period) (start : PeriodStart) → IsLawfulInstance period.instance → period.t < period.instance.periods → IsFree period
    → AreShortages period start.shortage → IsFirstLeft (served_by period start.shortage) start.left → IsSizedLeft start.left.need → IsSizedLeft start.left.room
    → IsStart period start
started period start lawful within free are first need room =
    let kept = served_by period start.shortage in
    let well : IsFillable kept = subst (λ z. z) (λ i. IsFillable (served period (sym are.shed i) (sym are.short i))) (fillable period lawful within free.balance.ranges free) in
    record {
      shortages = are;
      fillable = well;
      first = first;
      sizes = record { need = first_need kept start.left well first; room = first_room kept start.left well first; need_size = need; room_size = room };
    }

-- a period that is filled from that is dispatched
pub dispatched_from : (instance : Instance) (patterns : List Pattern) (t : ℕ) (before : ℕ → ℤ) (order : List Segment) (ranges : List Range) (start : PeriodStart)
    (amounts numbers : List ℤ) (rest : Left) → IsLawfulInstance instance → t < instance.periods → AreInMeritOrder instance order
    → AreRangesOf (period_after instance patterns t before) ranges → AreHeadsOf (period_after instance patterns t before) numbers
    → IsStart (period_after instance patterns t before) start → IsFilledTo instance order ranges start.left (length order) amounts rest
    → IsDispatchedFrom (period_after instance patterns t before) start.shortage amounts numbers
dispatched_from instance patterns t before order ranges start amounts numbers rest lawful within merit are tops is filled =
    let period = period_after instance patterns t before in
    let kept = served_by period start.shortage in
    let all : IsFilledUp kept order ranges start.left amounts rest = record {
      lawful = lawful;
      within = within;
      order = merit;
      ranges = ranges_served period start.shortage.shed start.shortage.short ranges are;
      free = is.fillable;
      first = is.first;
      filled = filled;
    } in
    record {
      shortages = is.shortages;
      merit = in_merit_order kept order ranges start.left amounts rest all;
      heads = tops;
      sizes = width_size kept order ranges start.left amounts rest all;
      kept = kept_size instance patterns t before start.shortage lawful within is.shortages is.fillable;
    }
