-- A period with an obstacle has no dispatch: what a schedule gives inside the ranges, over its denominator, lies between the
-- sums of their ends, and its reserve is at most what its output leaves of the heads.
-- Cite by `use Rattle.dispatch_repair.proofs.Impossible.{impossible}`.
use Rattle.std.proofs.Common.{◌≡◌, ℕ, ◌<◌, ◌≤◌, ⊎_elim, ap, subst, sym, ◌∙◌, arith, nat_lt, ℤ, pos, ◌+ℤ◌, ◌-ℤ◌, ◌*ℤ◌, ◌≤ℤ◌}
use Rattle.std.specs.Int.{int_min, int_max}
use Rattle.std.proofs.lemmas.Bool.{cond_both, cond-true, cond-false, and_parts}
use Rattle.uc_model.specs.Prelude.{sum_below, bit, cap, Schedule, thermal_unit, thermal_count, renewable_count, p_at, p_before, demand_at, reserve_at, most_shed, most_short, StartCap, StopCap, RampUp, RenewableRange, Demand, Reserve, ShedRange, ShortRange, supply_at, reserve_supply_at}
use Rattle.uc_model.specs.declared.stuck.Why.TheVariants as why
use Rattle.uc_model.proofs.Common.{linear, mul-add, mul-sub, mul_assoc, le_from_mul, sum_below-same, sum_below-add, sum_below-mul_left, sum_below-le, int_le-true, int_eq-true, IsShortage, shortage_parts}
use Rattle.dual_model.proofs.Locality.{cap-same}
use Rattle.dual_model.proofs.PricedRules.{within_cap}
use Rattle.dispatch_repair.specs.Prelude.{Period, Source, FromRenewable, FromThermal, low_of, high_of, head_of, thermal_sum, renewable_sum, total_output, demand_of, need_of, greatest_room, Why, IsFirstObstacle, GoesOn, KeepsDispatchRules, HasNoDispatch}
use Rattle.dispatch_repair.specs.Period.{heads, minimums}
use Rattle.dispatch_repair.proofs.Shortages.{price_cases}

-- ---- numbers over q against whole ones
least-sum : (n q : ℕ) (f g : ℕ → ℤ) → ((k : ℕ) → k < n → (pos q *ℤ f k) ≤ℤ g k) → (pos q *ℤ sum_below n f) ≤ℤ sum_below n g
least-sum n q f g h = subst (λ z. z ≤ℤ sum_below n g) (sum_below-mul_left n (pos q) f) (sum_below-le n (λ k. pos q *ℤ f k) g h)

most-sum : (n q : ℕ) (f g : ℕ → ℤ) → ((k : ℕ) → k < n → g k ≤ℤ (pos q *ℤ f k)) → sum_below n g ≤ℤ (pos q *ℤ sum_below n f)
most-sum n q f g h = subst (λ z. sum_below n g ≤ℤ z) (sum_below-mul_left n (pos q) f) (sum_below-le n g (λ k. pos q *ℤ f k) h)

-- a number between q times two numbers
between : (q : ℕ) (a b z : ℤ) → 1 ≤ q → (pos q *ℤ a) ≤ℤ z → z ≤ℤ (pos q *ℤ b) → a ≤ℤ b
between q a b z some low high = le_from_mul (pos q) a b (omega (arith, linear)) (omega (arith, linear))

-- q times a least of two numbers, which is one of them
scaled_min : (q : ℕ) (a b z : ℤ) → z ≤ℤ (pos q *ℤ a) → z ≤ℤ (pos q *ℤ b) → z ≤ℤ (pos q *ℤ int_min a b)
scaled_min q a b z h k = cond_both _ b a (λ m. z ≤ℤ (pos q *ℤ m)) (λ e. k) (λ e. h)

scaled_max : (q : ℕ) (a b z : ℤ) → (pos q *ℤ a) ≤ℤ z → (pos q *ℤ b) ≤ℤ z → (pos q *ℤ int_max a b) ≤ℤ z
scaled_max q a b z h k = cond_both _ a b (λ m. (pos q *ℤ m) ≤ℤ z) (λ e. h) (λ e. k)

-- what each source gives over q
abbrev given : Period → Schedule → Source → ℤ
given period x (FromRenewable w) = x.output w period.t
given period x (FromThermal g) = p_at (thermal_unit period.instance g) (x.thermal g) period.t

-- a schedule over q that goes on in the period and keeps the rules on dispatch
record Goes (period : Period) (q : ℕ) (x : Schedule) : Type 0 where
  some : 1 ≤ q
  inside : period.t < period.instance.periods
  on : GoesOn period q x
  keeps : KeepsDispatchRules period q x
  demand : period.demand ≡ demand_at period.instance period.t
  need : period.need ≡ reserve_at period.instance period.t
  shed : IsShortage q period.instance.a (most_shed period.instance period.t) (x.shed period.t)
  short : IsShortage q period.instance.b (most_short period.instance period.t) (x.short period.t)

module _ (period : Period) (q : ℕ) (x : Schedule) (goes : Goes period q x) where
  -- ---- output
  least_thermal : (pos q *ℤ thermal_sum period (low_of period)) ≤ℤ thermal_sum period (given period x)
  least_thermal = least-sum (thermal_count period.instance) q (λ g. low_of period (FromThermal g)) (λ g. given period x (FromThermal g)) goes.on.low

  most_thermal : thermal_sum period (given period x) ≤ℤ (pos q *ℤ thermal_sum period (high_of period))
  most_thermal = most-sum (thermal_count period.instance) q (λ g. high_of period (FromThermal g)) (λ g. given period x (FromThermal g)) goes.on.high

  least_renewable : (pos q *ℤ renewable_sum period (low_of period)) ≤ℤ renewable_sum period (given period x)
  least_renewable =
      least-sum (renewable_count period.instance) q (λ w. low_of period (FromRenewable w)) (λ w. given period x (FromRenewable w))
      (λ w hw. int_le-true _ _ (and_parts _ _ (goes.keeps RenewableRange (omega arith) w hw)).0)

  most_renewable : renewable_sum period (given period x) ≤ℤ (pos q *ℤ renewable_sum period (high_of period))
  most_renewable =
      most-sum (renewable_count period.instance) q (λ w. high_of period (FromRenewable w)) (λ w. given period x (FromRenewable w))
      (λ w hw. int_le-true _ _ (and_parts _ _ (goes.keeps RenewableRange (omega arith) w hw)).1)

  -- the minimums of its units, q times those of the period
  minimums-is : sum_below (thermal_count period.instance) (λ g. pos q *ℤ (thermal_unit period.instance g).pmin *ℤ bit ((x.thermal g).on period.t))
      ≡ pos q *ℤ minimums period
  minimums-is =
      sum_below-same (thermal_count period.instance) _ (λ g. pos q *ℤ ((thermal_unit period.instance g).pmin *ℤ bit (period.on g period.t)))
      (λ g hg. mul_assoc (pos q) (thermal_unit period.instance g).pmin (bit ((x.thermal g).on period.t))
      ∙ ap (λ b. pos q *ℤ ((thermal_unit period.instance g).pmin *ℤ bit b)) (goes.on.on g period.t hg goes.inside))
      ∙ sum_below-mul_left (thermal_count period.instance) (pos q) (λ g. (thermal_unit period.instance g).pmin *ℤ bit (period.on g period.t))

  -- what all units give is q times the demand that is served
  balance : pos q *ℤ minimums period +ℤ thermal_sum period (given period x) +ℤ renewable_sum period (given period x) +ℤ x.shed period.t ≡ pos q *ℤ demand_of period
  balance =
      let supply : supply_at period.instance q x period.t +ℤ x.shed period.t ≡ pos q *ℤ demand_at period.instance period.t = int_eq-true _ _ (goes.keeps Demand (omega arith) 0 (omega arith)) in
      let parts = sum_below-add (thermal_count period.instance) (λ g. given period x (FromThermal g))
      (λ g. pos q *ℤ (thermal_unit period.instance g).pmin *ℤ bit ((x.thermal g).on period.t)) in
      let asked = ap (λ z. pos q *ℤ z) goes.demand in
      omega (arith, linear, supply, parts, minimums-is, asked)

  -- q times what all give together
  scaled_total : (f : Source → ℤ) → pos q *ℤ total_output period f
      ≡ pos q *ℤ minimums period +ℤ pos q *ℤ thermal_sum period f +ℤ pos q *ℤ renewable_sum period f
  scaled_total f =
      mul-add (pos q) (minimums period +ℤ thermal_sum period f) (renewable_sum period f)
      ∙ ap (λ z. z +ℤ pos q *ℤ renewable_sum period f) (mul-add (pos q) (minimums period) (thermal_sum period f))

  not_over : total_output period (low_of period) ≤ℤ demand_of period
  not_over =
      le_from_mul (pos q) _ _ (omega (arith, linear, goes.some))
      (omega (arith, linear, scaled_total (low_of period), least_thermal, least_renewable, balance, goes.shed.nonneg))

  not_under : period.instance.a ≡ 0 → demand_of period ≤ℤ total_output period (high_of period)
  not_under none =
      le_from_mul (pos q) _ _ (omega (arith, linear, goes.some))
      (omega (arith, linear, scaled_total (high_of period), most_thermal, most_renewable, balance, goes.shed.priced none))

  -- ---- reserve
  -- a unit's output and reserve are at most q times its head
  capped : (g : ℕ) → g < thermal_count period.instance → (given period x (FromThermal g) +ℤ (x.thermal g).reserve period.t)
      ≤ℤ (pos q *ℤ cap period.instance.periods (thermal_unit period.instance g) (x.thermal g).on period.t)
  capped g hg =
      within_cap period.instance.periods q (thermal_unit period.instance g) (x.thermal g) period.t
      (int_le-true _ _ (goes.keeps StartCap (omega arith) g hg)) (goes.keeps StopCap (omega arith) g hg)

  ramped : (g : ℕ) → g < thermal_count period.instance → (given period x (FromThermal g) +ℤ (x.thermal g).reserve period.t)
      ≤ℤ (pos q *ℤ (period.before g +ℤ (thermal_unit period.instance g).ru))
  ramped g hg =
      let unit = thermal_unit period.instance g in
      let total = given period x (FromThermal g) +ℤ (x.thermal g).reserve period.t in
      let rise : (total -ℤ p_before q unit (x.thermal g) period.t) ≤ℤ (pos q *ℤ unit.ru) = int_le-true _ _ (goes.keeps RampUp (omega arith) g hg) in
      omega (arith, linear, rise, goes.on.before g hg, mul-add (pos q) (period.before g) unit.ru)

  headed : (g : ℕ) → g < thermal_count period.instance
      → (given period x (FromThermal g) +ℤ (x.thermal g).reserve period.t) ≤ℤ (pos q *ℤ head_of period g)
  headed g hg =
      let same = cap-same period.instance.periods (thermal_unit period.instance g) (x.thermal g).on (period.on g)
      (record { same = λ t ht. goes.on.on g t hg ht }) period.t goes.inside in
      scaled_min q _ _ _
      (subst (λ c. (given period x (FromThermal g) +ℤ (x.thermal g).reserve period.t) ≤ℤ (pos q *ℤ c)) same (capped g hg))
      (ramped g hg)

  all_headed : (thermal_sum period (given period x) +ℤ reserve_supply_at period.instance x period.t) ≤ℤ (pos q *ℤ heads period)
  all_headed =
      subst (λ z. z ≤ℤ (pos q *ℤ heads period)) (sum_below-add (thermal_count period.instance) (λ g. given period x (FromThermal g)) (λ g. (x.thermal g).reserve period.t))
      (most-sum (thermal_count period.instance) q (head_of period) (λ g. given period x (FromThermal g) +ℤ (x.thermal g).reserve period.t) headed)

  -- where all demand is served the thermal units give at least what the renewable ones can't
  rest : period.instance.a ≡ 0 → (pos q *ℤ (demand_of period -ℤ minimums period -ℤ renewable_sum period (high_of period))) ≤ℤ thermal_sum period (given period x)
  rest none = omega (
    arith,
    linear,
    mul-sub (pos q) (demand_of period -ℤ minimums period) (renewable_sum period (high_of period)),
    mul-sub (pos q) (demand_of period) (minimums period),
    most_renewable,
    balance,
    goes.shed.priced none,
  )

  -- where all reserve is kept it is within what so much output leaves of the heads
  beside : (least : ℤ) → period.instance.b ≡ 0 → (pos q *ℤ least) ≤ℤ thermal_sum period (given period x) → need_of period ≤ℤ (heads period -ℤ least)
  beside least none used =
      let needed : (pos q *ℤ reserve_at period.instance period.t) ≤ℤ (reserve_supply_at period.instance x period.t +ℤ x.short period.t) = int_le-true _ _ (goes.keeps Reserve (omega arith) 0 (omega arith)) in
      let asked = ap (λ z. pos q *ℤ z) goes.need in
      le_from_mul (pos q) _ _ (omega (arith, linear, goes.some))
      (omega (arith, linear, mul-sub (pos q) (heads period) least, used, needed, all_headed, goes.short.priced none, asked))

  not_short : period.instance.b ≡ 0 → need_of period ≤ℤ greatest_room period
  not_short none = ⊎_elim
      (λ some. subst (λ z. need_of period ≤ℤ z) (sym (cond-true _ _ _ some)) (beside (thermal_sum period (low_of period)) none least_thermal))
      (λ free. subst (λ z. need_of period ≤ℤ z) (sym (cond-false _ _ _ (ap (nat_lt 0) free))) (beside _ none (scaled_max q _ _ _ least_thermal (rest free))))
      (price_cases period.instance.a)

-- ---- each obstacle
not_empty : (period : Period) (q : ℕ) (x : Schedule) → Goes period q x → (g : ℕ) → g < thermal_count period.instance
    → low_of period (FromThermal g) ≤ℤ high_of period (FromThermal g)
not_empty period q x goes g hg = between q _ _ _ goes.some (goes.on.low g hg) (goes.on.high g hg)

no_dispatch : (period : Period) (why : Why) (q : ℕ) (x : Schedule) → IsFirstObstacle period why → Goes period q x → ⊥
no_dispatch period (why.Rule number unit) q x obstacle goes = obstacle
no_dispatch period (why.Box unit low high) q x obstacle goes =
    let range = not_empty period q x goes unit obstacle.within in
    omega (arith, linear, range, obstacle.low, obstacle.high, obstacle.empty)
no_dispatch period (why.Over least demand) q x obstacle goes =
    omega (arith, linear, not_over period q x goes, obstacle.least, obstacle.demand, obstacle.above)
no_dispatch period (why.Under most demand) q x obstacle goes =
    omega (arith, linear, not_under period q x goes obstacle.firm, obstacle.most, obstacle.demand, obstacle.below)
no_dispatch period (why.Reserve room need) q x obstacle goes =
    omega (arith, linear, not_short period q x goes obstacle.firm, obstacle.room, obstacle.need, obstacle.below)

pub impossible : (period : Period) (why : Why) → period.t < period.instance.periods → period.demand ≡ demand_at period.instance period.t
    → period.need ≡ reserve_at period.instance period.t → IsFirstObstacle period why → HasNoDispatch period
impossible period why inside demand need obstacle q x some on keeps =
    no_dispatch period why q x obstacle (record {
      some = some;
      inside = inside;
      on = on;
      keeps = keeps;
      demand = demand;
      need = need;
      shed = shortage_parts q period.instance.a (most_shed period.instance period.t) (x.shed period.t) (keeps ShedRange (omega arith) 0 (omega arith));
      short = shortage_parts q period.instance.b (most_short period.instance period.t) (x.short period.t) (keeps ShortRange (omega arith) 0 (omega arith));
    })
