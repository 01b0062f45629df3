-- Period by period a commitment has one dispatch, and none where it is stuck.
use Rattle.std.proofs.Common.{◌≡◌, ⊎_elim, ℕ, zero, suc, ◌<◌, ◌≤◌, arith, refl, sym, ap, subst, ◌∙◌, List, [], length, get_or, All, ℤ, pos, ◌-ℤ◌, ◌≤ℤ◌, IsTrue, nat_lt}
use Rattle.std.specs.Int.{int_max, int_min}
use Rattle.std.proofs.Math.ListN.{get_or-eq_default}
use Rattle.std.proofs.lemmas.Bool.{cases_Bool, cases_lt, cond-true, cond-false}
use Rattle.std.proofs.lemmas.List.Elements.{All-get_or}
use Rattle.uc_model.specs.Prelude.{starts, IsLawfulInstance, cell_at, shed_at, short_at, thermal_count, thermal_unit, renewable_count, category_cost}
use Rattle.uc_model.specs.declared.instance.Thermal.{Thermal}
use Rattle.uc_model.specs.declared.schedule.Cell.{Cell}
use Rattle.uc_model.specs.declared.stuck.Why.{Why}
use Rattle.uc_model.specs.declared.stuck.Why.TheVariants as why
use Rattle.uc_model.proofs.Common.{linear, le_trans, below_or_last, sum_below-same}
use Rattle.start_costs.specs.Cheapest.{IsCheapestAbove}
use Rattle.schedule_check.specs.SizedNumbers.{output_at}
use Rattle.dispatch_repair.specs.Prelude.{HasPeriods, IsCommittedCell, IsDispatchThrough, IsFilling, period_after, IsFillable, IsInMeritOrder, IsReserveInOrder, Period, FromRenewable, FromThermal, IsSourceOf, Source, commitment_at, demand_of, head_of, high_of, low_of, need_of, output_before, renewable_sum, thermal_sum, IsFirstObstacle, IsRegular, IsStuckBy, stuck_period, greatest_room, served, shed_of, short_of, Instance, Pattern, Printed, Stuck, DispatchesAreSame, NeverBoth, StuckPeriodsAreSame, AreSameBelow}
use Rattle.dispatch_repair.specs.Dispatch.{amounts}
use Rattle.dispatch_repair.specs.Period.{heads, minimums}
use Rattle.dispatch_repair.proofs.Filled.{filled_period, max_left, max_right}
use Rattle.dispatch_repair.proofs.Shortages.{max_le, merit_fillable, price_cases, shed_nonneg, shed_none, short_none}
use Rattle.dispatch_repair.proofs.OneFilling.{one_filling}
use Rattle.dispatch_repair.proofs.Periods.{before_same}

-- ---- one cell
-- the cheapest category is one
one_cheapest : (unit : Thermal) (on : ℕ → _) (t s r : ℕ) → IsCheapestAbove unit on t 0 (s, category_cost unit s) → IsCheapestAbove unit on t 0 (r, category_cost unit r) → s ≡ r
one_cheapest unit on t s r a b = ⊎_elim
    (λ (less : s < r). absurd (omega (arith, linear, b.first s a.above less a.allowed, a.cheapest r b.above b.allowed)))
    (λ (up : r ≤ s). ⊎_elim
    (λ (less : r < s). absurd (omega (arith, linear, a.first r b.above less b.allowed, b.cheapest s a.above a.allowed)))
    (λ (other : s ≤ r). omega (arith, up, other))
    (cases_lt r s))
    (cases_lt s r)

pub one_category : (instance : Instance) (patterns : List Pattern) (g t : ℕ) (a b : Cell) → IsCommittedCell instance patterns g t a → IsCommittedCell instance patterns g t b
    → a.category ≡ b.category
one_category instance patterns g t a b is like = ⊎_elim
    (λ (begins : IsTrue (starts (thermal_unit instance g) (commitment_at patterns g) t)).
    one_cheapest (thermal_unit instance g) (commitment_at patterns g) t a.category b.category (is.start begins) (like.start begins))
    (λ none. is.none none ∙ sym (like.none none))
    (cases_Bool (starts (thermal_unit instance g) (commitment_at patterns g) t))

-- ---- one period
one_reserve : (period : Period) (one other : Source → ℤ) (r s : ℕ → ℤ) → ((g : ℕ) → g < thermal_count period.instance → one (FromThermal g) ≡ other (FromThermal g))
    → IsReserveInOrder period one r → IsReserveInOrder period other s → (n : ℕ) → n ≤ thermal_count period.instance → (g : ℕ) → g < n → r g ≡ s g
one_reserve period one other r s same a b zero within g h = absurd (omega (arith, h))
one_reserve period one other r s same a b (suc n) within g h =
    let before = one_reserve period one other r s same a b n (omega (arith, within)) in
    ⊎_elim (λ early. before g early)
    (λ here. subst (λ k. r k ≡ s k) (sym here)
    (a n (omega (arith, within))
    ∙ (λ i. int_min (head_of period n -ℤ same n (omega (arith, within)) i) (int_max (need_of period -ℤ sum_below-same n r s before i) (pos 0)))
    ∙ sym (b n (omega (arith, within)))))
    (below_or_last n g h)

-- the cells and outputs of a period that is filled after the same outputs, and what is missing in it, are the same
record AreSameIn (instance : Instance) (a b : ℕ → Cell) (v w : ℕ → ℤ) (s r e f : ℤ) : Type 0 where
  cells : (g : ℕ) → g < thermal_count instance → a g ≡ b g
  outputs : (k : ℕ) → k < renewable_count instance → v k ≡ w k
  shed : s ≡ r
  short : e ≡ f

one_period : (instance : Instance) (patterns : List Pattern) (t : ℕ) (before : ℕ → ℤ) (a b : ℕ → Cell) (v w : ℕ → ℤ) (s r e f : ℤ) → IsLawfulInstance instance
    → IsFilling instance patterns t before a v s e → IsFilling instance patterns t before b w r f → AreSameIn instance a b v w s r e f
one_period instance patterns t before a b v w s r e f lawful one other = record {
  cells = λ g h. λ i. record { on = on g h i; p = power g h i; r = reserve g h i; category = category g h i };
  outputs = λ k h. filling (FromRenewable k) h;
  shed = shed;
  short = short;
}
  where
    whole : Period
    whole = period_after instance patterns t before

    shed : s ≡ r
    shed = one.unserved ∙ sym other.unserved

    short : e ≡ f
    short = one.missing ∙ sym other.missing

    period : Period
    period = served whole s e

    filling : (x : Source) → IsSourceOf instance x → amounts a v x ≡ amounts b w x
    filling = one_filling period (amounts a v) (amounts b w) lawful one.merit
        (subst (λ z. z) (λ i. IsInMeritOrder (served whole (sym shed i) (sym short i)) (amounts b w)) other.merit)

    power : (g : ℕ) → g < thermal_count instance → (a g).p ≡ (b g).p
    power g h = filling (FromThermal g) h

    on : (g : ℕ) → g < thermal_count instance → (a g).on ≡ (b g).on
    on g h = (one.cells g h).on ∙ sym (other.cells g h).on

    reserve : (g : ℕ) → g < thermal_count instance → (a g).r ≡ (b g).r
    reserve g h = one_reserve period (amounts a v) (amounts b w) (λ k. (a k).r) (λ k. (b k).r) power one.reserve
        (subst (λ z. z) (λ i. IsReserveInOrder (served whole (sym shed i) (sym short i)) (amounts b w) (λ k. (b k).r)) other.reserve) (thermal_count instance) (omega arith) g h

    category : (g : ℕ) → g < thermal_count instance → (a g).category ≡ (b g).category
    category g h = one_category instance patterns g t (a g) (b g) (one.cells g h) (other.cells g h)

-- ---- one dispatch
-- past its units and its periods a schedule has off cells and no outputs
no_entry : {X : Type 0} (rows : List (List X)) (n : ℕ) (g t : ℕ) (d : X) → length rows ≡ n → n ≤ g → get_or (get_or rows g []) t d ≡ d
no_entry {X} rows n g t d count past =
    ap (λ (row : List X). get_or row t d) (get_or-eq_default rows [] (subst (λ k. k ≤ g) (sym count) past)) ∙ get_or-eq_default [] d {n = t} (omega arith)

same_entry : {X : Type 0} (one other : List (List X)) (n : ℕ) (g t : ℕ) (d : X) → length one ≡ n → length other ≡ n
    → (g < n → get_or (get_or one g []) t d ≡ get_or (get_or other g []) t d) → get_or (get_or one g []) t d ≡ get_or (get_or other g []) t d
same_entry {X} one other n g t d a b within = ⊎_elim within (λ past. no_entry one n g t d a past ∙ sym (no_entry other n g t d b past)) (cases_lt g n)

module _ (instance : Instance) (patterns : List Pattern) (one other : Printed) (m k : ℕ) (lawful : IsLawfulInstance instance)
    (first : IsDispatchThrough instance patterns m one) (second : IsDispatchThrough instance patterns k other) where
  next : (n : ℕ) → n < m → n < k → AreSameBelow n other one → AreSameIn instance (λ g. cell_at one g n) (λ g. cell_at other g n) (λ w. output_at one w n) (λ w. output_at other w n)
      (shed_at one n) (shed_at other n) (short_at one n) (short_at other n)
  next n hm hk same =
      one_period instance patterns n (λ g. output_before instance other g n) (λ g. cell_at one g n) (λ g. cell_at other g n) (λ w. output_at one w n) (λ w. output_at other w n)
      (shed_at one n) (shed_at other n) (short_at one n) (short_at other n) lawful
      (subst (λ z. z) (λ i. IsFilling instance patterns n (λ g. before_same instance one other g n (same.cells g) i) (λ g. cell_at one g n) (λ w. output_at one w n) (shed_at one n) (short_at one n)) (first.filled n hm))
      (second.filled n hk)

  pub same_to : (n : ℕ) → n ≤ m → n ≤ k → AreSameBelow n other one
  same_to zero hm hk = record {
    cells = λ g t h. absurd (omega (arith, h));
    outputs = λ w t h. absurd (omega (arith, h));
    shed = λ t h. absurd (omega (arith, h));
    short = λ t h. absurd (omega (arith, h));
  }
  same_to (suc n) hm hk =
      let before = same_to n (omega (arith, hm)) (omega (arith, hk)) in
      let here = next n (omega (arith, hm)) (omega (arith, hk)) before in
      record {
        cells = λ g t h. ⊎_elim (λ early. before.cells g t early)
            (λ last. subst (λ j. cell_at one g j ≡ cell_at other g j) (sym last)
            (same_entry one.thermal other.thermal (thermal_count instance) g n _ first.shape.thermal second.shape.thermal (here.cells g)))
            (below_or_last n t h);
        outputs = λ w t h. ⊎_elim (λ early. before.outputs w t early)
            (λ last. subst (λ j. output_at one w j ≡ output_at other w j) (sym last)
            (same_entry one.renewable other.renewable (renewable_count instance) w n _ first.shape.renewable second.shape.renewable (here.outputs w)))
            (below_or_last n t h);
        shed = λ t h. ⊎_elim (λ early. before.shed t early) (λ last. subst (λ j. shed_at one j ≡ shed_at other j) (sym last) here.shed) (below_or_last n t h);
        short = λ t h. ⊎_elim (λ early. before.short t early) (λ last. subst (λ j. short_at one j ≡ short_at other j) (sym last) here.short) (below_or_last n t h);
      }

-- ---- an obstacle is in the way of each dispatch
no_obstacle : (period : Period) (shed short : ℤ) (reason : Why) → shed ≡ shed_of period → short ≡ short_of period
    → IsFillable (served period shed short) → ¬ IsFirstObstacle period reason
no_obstacle period shed short (why.Rule number unit) unserved missing well found = found
no_obstacle period shed short (why.Box g low high) unserved missing well found =
    omega (arith, linear, found.empty, found.low, found.high, well.ranges g found.within)
no_obstacle period shed short (why.Over total wanted) unserved missing well found =
    omega (arith, linear, found.above, found.least, found.demand, well.least, unserved, shed_nonneg period)
no_obstacle period shed short (why.Under total wanted) unserved missing well found =
    omega (arith, linear, found.below, found.most, found.demand, well.most, unserved, shed_none period found.firm)
no_obstacle period shed short (why.Reserve spare wanted) unserved missing well found =
    omega (arith, linear, found.below, found.room, found.need, roomy)
  where
    lows : ℤ
    lows = thermal_sum period (low_of period)

    asked : ℤ
    asked = demand_of period -ℤ minimums period -ℤ renewable_sum period (high_of period)

    rest : ℤ
    rest = demand_of (served period shed short) -ℤ minimums period -ℤ renewable_sum period (high_of period)

    kept : (given : ℤ) → given ≤ℤ int_max lows rest
        → need_of period ≤ℤ (heads period -ℤ given)
    kept given h = omega (arith, linear, well.reserve, h, missing, short_none period found.firm)

    roomy : need_of period ≤ℤ greatest_room period
    roomy = ⊎_elim
        (λ some. subst (λ z. need_of period ≤ℤ z) (sym (cond-true _ _ _ some)) (kept lows (max_left lows rest)))
        (λ none. subst (λ z. need_of period ≤ℤ z) (sym (cond-false _ _ _ (ap (nat_lt 0) none)))
        (kept (int_max lows asked) (max_le lows asked (int_max lows rest) (max_left lows rest)
        (le_trans asked rest (int_max lows rest) (omega (arith, linear, unserved, shed_none period none)) (max_right lows rest)))))
        (price_cases period.instance.a)

-- a commitment that is dispatched through a period isn't stuck there
not_stuck : (instance : Instance) (patterns : List Pattern) (printed : Printed) (stuck : Stuck) (n : ℕ) → IsLawfulInstance instance
    → IsDispatchThrough instance patterns n printed → stuck.period < n → IsDispatchThrough instance patterns stuck.period stuck.prefix
    → ¬ IsFirstObstacle (stuck_period instance patterns stuck) stuck.why
not_stuck instance patterns printed stuck n lawful dispatch within prefix found =
    let same = same_to instance patterns printed stuck.prefix n stuck.period lawful dispatch prefix stuck.period (omega (arith, within)) (omega arith) in
    let filled = dispatch.filled stuck.period within in
    no_obstacle (period_after instance patterns stuck.period (λ g. output_before instance printed g stuck.period))
    (shed_at printed stuck.period) (short_at printed stuck.period) stuck.why filled.unserved filled.missing
    (merit_fillable (filled_period instance patterns printed stuck.period) _ filled.merit)
    (subst (λ z. z) (λ i. IsFirstObstacle (period_after instance patterns stuck.period (λ g. sym (before_same instance printed stuck.prefix g stuck.period (same.cells g)) i)) stuck.why) found)

-- where a commitment is stuck it goes through the periods before, and something is in the way; or it breaks a rule
data IsStuckSo (instance : Instance) (patterns : List Pattern) (stuck : Stuck) : Type 0 where
  by_rule : stuck.period ≡ 0 → ¬ IsRegular instance patterns → IsStuckSo instance patterns stuck
  in_period : IsRegular instance patterns → stuck.period < instance.periods → IsDispatchThrough instance patterns stuck.period stuck.prefix
      → IsFirstObstacle (stuck_period instance patterns stuck) stuck.why → IsStuckSo instance patterns stuck

so : (instance : Instance) (patterns : List Pattern) (stuck : Stuck) (reason : Why) → IsStuckBy instance patterns stuck reason → stuck.why ≡ reason
    → IsStuckSo instance patterns stuck
so instance patterns stuck (why.Rule number unit) is same = by_rule is.period (λ regular. is.broken.breaks (regular is.broken.rule is.broken.kind unit is.broken.within))
so instance patterns stuck (why.Box g low high) is same = in_period is.regular is.within is.prefix is.obstacle
so instance patterns stuck (why.Over total wanted) is same = in_period is.regular is.within is.prefix is.obstacle
so instance patterns stuck (why.Under total wanted) is same = in_period is.regular is.within is.prefix is.obstacle
so instance patterns stuck (why.Reserve spare wanted) is same = in_period is.regular is.within is.prefix is.obstacle

-- ---- the laws
-- past its last period a schedule has off cells and no outputs
past_end : {X : Type 0} (rows : List (List X)) (n m : ℕ) (g t : ℕ) (d : X) → length rows ≡ n → All (λ row. length row ≡ m) rows → m ≤ t
    → get_or (get_or rows g []) t d ≡ d
past_end {X} rows n m g t d count lengths past = ⊎_elim
    (λ (within : g < n). get_or-eq_default (get_or rows g []) d {n = t}
    (subst (λ k. k ≤ t) (sym (All-get_or (λ (row : List X). length row ≡ m) rows g [] (subst (λ k. g < k) (sym count) within) lengths)) past))
    (λ other. no_entry rows n g t d count other)
    (cases_lt g n)

pub one_dispatch : DispatchesAreSame
one_dispatch instance patterns one other lawful first second = record {
  cells = λ g t. ⊎_elim (λ (within : t < instance.periods). same.cells g t within)
      (λ past. past_end one.thermal (thermal_count instance) instance.periods g t _ a.thermal a.cells past
      ∙ sym (past_end other.thermal (thermal_count instance) instance.periods g t _ b.thermal b.cells past))
      (cases_lt t instance.periods);
  outputs = λ w t. ⊎_elim (λ (within : t < instance.periods). same.outputs w t within)
      (λ past. past_end one.renewable (renewable_count instance) instance.periods w t _ a.renewable a.outputs past
      ∙ sym (past_end other.renewable (renewable_count instance) instance.periods w t _ b.renewable b.outputs past))
      (cases_lt t instance.periods);
  shed = λ t. ⊎_elim (λ (within : t < instance.periods). same.shed t within) (λ past. past_last one.shed other.shed t a.shed b.shed past) (cases_lt t instance.periods);
  short = λ t. ⊎_elim (λ (within : t < instance.periods). same.short t within) (λ past. past_last one.short other.short t a.short b.short past) (cases_lt t instance.periods);
}
  where
    a : HasPeriods instance instance.periods one
    a = first.periods.shape

    b : HasPeriods instance instance.periods other
    b = second.periods.shape

    past_last : (xs ys : List ℤ) (t : ℕ) → length xs ≡ instance.periods → length ys ≡ instance.periods → instance.periods ≤ t → get_or xs t (pos 0) ≡ get_or ys t (pos 0)
    past_last xs ys t xs_long ys_long past =
        get_or-eq_default xs (pos 0) {n = t} (subst (λ k. k ≤ t) (sym xs_long) past) ∙ sym (get_or-eq_default ys (pos 0) {n = t} (subst (λ k. k ≤ t) (sym ys_long) past))

    same : AreSameBelow instance.periods other one
    same = same_to instance patterns one other instance.periods instance.periods lawful first.periods second.periods instance.periods (omega arith) (omega arith)

pub never_both : NeverBoth
never_both instance patterns printed stuck lawful dispatch is = elim (so instance patterns stuck stuck.why is refl) [
  | by_rule none broken ↦ broken dispatch.regular
  | in_period regular within prefix found ↦ not_stuck instance patterns printed stuck instance.periods lawful dispatch.periods within prefix found
]

pub one_period_stuck : StuckPeriodsAreSame
one_period_stuck instance patterns one other lawful a b = by (so instance patterns one one.why a refl) (so instance patterns other other.why b refl)
  where
    by : IsStuckSo instance patterns one → IsStuckSo instance patterns other → one.period ≡ other.period
    by (by_rule first broken) (by_rule second like) = first ∙ sym second
    by (by_rule first broken) (in_period regular within prefix found) = absurd (broken regular)
    by (in_period regular within prefix found) (by_rule second broken) = absurd (broken regular)
    by (in_period regular within prefix found) (in_period kept beyond front seen) = ⊎_elim
        (λ (less : one.period < other.period). absurd (not_stuck instance patterns other.prefix one other.period lawful front less prefix found))
        (λ up. ⊎_elim
        (λ (less : other.period < one.period). absurd (not_stuck instance patterns one.prefix other one.period lawful prefix less front seen))
        (λ down. omega (arith, up, down))
        (cases_lt other.period one.period))
        (cases_lt one.period other.period)
