-- On regular start rows the first category that the last stop lets a start cost is one that the history allows: the minimum
-- down time lies between the last stop and the start, so its lag is reached, and as costs don't decrease it is the cheapest.
-- Cite from a crate above by `use Rattle.start_costs.proofs.RegularStarts.{regular, long_off}`.
use Rattle.std.proofs.Common.{◌≡◌, ℕ, zero, suc, ◌-◌, ◌<◌, ◌≤◌, ◌⊎◌, inl, inr, ⊎_elim, min, max, Bool, true, false, not, ◌&&◌, cond, refl, sym, ap, subst, ◌∙◌, arith, ℤ, ◌≤ℤ◌, IsTrue, nat_le, ◌==◌, Option, Some, None}
use Rattle.std.specs.Int.{int_min}
use Rattle.std.proofs.lemmas.Int.{ints}
use Rattle.std.proofs.lemmas.Bool.{and_parts, and_from, or_left, or_right, cases_Bool, cases_lt, cond-true, cond-false, not-true, not_from_false, true≢false, leb-true, le-leb, lt-ltb, eq-eqb}
use Rattle.uc_model.specs.Prelude.{least_below, Commitment, was_on, starts, stops, is_allowed, IsLawfulThermal, category_count, category_lag, category_cost, has_stop_within, is_category_allowed, last_stop, stopped_within, may_cost_as, sigma}
use Rattle.uc_model.proofs.Common.{allowed-parts, one_change, fall, sigma-le-allowed, below_or_last, any_below-from}
use Rattle.start_costs.specs.Regular.{Thermal, AreStartsRegular, RegularStarts}

-- ---- the minimum down time
-- a stop and a later start of an allowed pattern lie at least the minimum down time apart
pub long_off : (periods : ℕ) (unit : Thermal) (on : Commitment) (l t : ℕ) → IsTrue (is_allowed periods unit on) → t < periods
    → l < t → IsTrue (stops unit on l) → IsTrue (starts unit on t) → unit.dt ≤ t - l
long_off periods unit on l t allowed within before stop start = ⊎_elim
    (λ (near : t - l < min unit.dt periods). absurd (too_near near))
    (λ (far : min unit.dt periods ≤ t - l). omega arith)
    (cases_lt (t - l) (min unit.dt periods))
  where
    end : ℕ
    end = max t (min unit.dt periods - 1)

    now : IsTrue (on t)
    now = (and_parts (not (was_on unit on t)) (on t) start).1

    same_end : end ≤ t → t ≡ end
    same_end here = omega arith

    too_near : t - l < min unit.dt periods → ⊥
    too_near near =
        let keeps = ((allowed-parts periods unit on allowed).cells end (omega arith)).minimum_down in
        let one = one_change (min unit.dt periods) (stops unit on) (λ k. not (on k)) l end (omega arith) (omega arith) (omega arith) stop keeps in
        let off : on end ≡ false = not-true (on end) one.state_at in
        ⊎_elim
        (λ (later : t < end).
        let again = fall unit.on0 on t end later now off in
        let same = one.only again.0 (omega (arith, again.1)) again.2
        (and_from (was_on unit on again.0) (not (on again.0)) again.3 (not_from_false (on again.0) again.4)) in
        omega (arith, again.1, same))
        (λ (here : end ≤ t). true≢false (sym now ∙ ap on (same_end here) ∙ off))
        (cases_lt t end)

-- the last stop is one, before the period
last_stop-is : (unit : Thermal) (on : Commitment) (t l : ℕ) → last_stop unit on t ≡ Some l → (l < t) × IsTrue (stops unit on l)
last_stop-is unit on zero l e = cc
last_stop-is unit on (suc t) l e = ⊎_elim
    (λ (here : IsTrue (stops unit on t)).
    let same : t ≡ l = unwrap (sym (cond-true _ (Some t) (last_stop unit on t) here) ∙ e) in
    (omega arith, subst (λ k. IsTrue (stops unit on k)) same here))
    (λ (other : stops unit on t ≡ false).
    let earlier = last_stop-is unit on t l (sym (cond-false _ (Some t) (last_stop unit on t) other) ∙ e) in
    (omega (arith, earlier.0), earlier.1))
    (cases_Bool (stops unit on t))
  where
    unwrap : {a b : ℕ} → Some a ≡ Some b → a ≡ b
    unwrap h = cc

stopped : (last : Option ℕ) (most t : ℕ) → IsTrue (stopped_within last most t) → (l : ℕ) × (last ≡ Some l) × (t - l ≤ most)
stopped None most t h = absurd (true≢false (sym h))
stopped (Some l) most t h = (l, refl, leb-true _ _ h)

-- ---- the first category that the last stop lets a start cost
-- where none before it is one, its lag is reached since the last stop
lag_reached : (unit : Thermal) (last : Option ℕ) (l t : ℕ) → AreStartsRegular unit → last ≡ Some l → unit.dt ≤ t - l
    → (s : ℕ) → s < category_count unit → category_lag unit (suc s) ≤ suc t
    → ((k : ℕ) → k < s → may_cost_as unit last t k ≡ false) → category_lag unit (suc s) ≤ t - l
lag_reached unit last l t regular e off zero inside reached none = omega (arith, regular.first)
lag_reached unit last l t regular e off (suc s) inside reached none =
    let rising = regular.lags (suc s) (omega arith) inside in
    let before = lag_reached unit last l t regular e off s (omega arith) (omega (arith, rising)) (λ k h. none k (omega arith)) in
    ⊎_elim
    (λ (short : t - l < category_lag unit (suc (suc s))).
    absurd (true≢false (sym (costs before short) ∙ none s (omega arith))))
    (λ (long : category_lag unit (suc (suc s)) ≤ t - l). long)
    (cases_lt (t - l) (category_lag unit (suc (suc s))))
  where
    costs : category_lag unit (suc s) ≤ t - l → t - l < category_lag unit (suc (suc s)) → IsTrue (may_cost_as unit last t s)
    costs before short =
        cond-true _ _ _ (le-leb _ _ reached)
        ∙ and_from _ _ (lt-ltb _ _ (omega arith))
        (subst (λ o. IsTrue (stopped_within o (category_lag unit (suc (suc s)) - 1) t)) (sym e) (le-leb _ _ (omega arith)))

-- so the history allows it
first_allowed : (periods : ℕ) (unit : Thermal) (on : Commitment) (t s : ℕ) → AreStartsRegular unit → IsTrue (is_allowed periods unit on)
    → t < periods → IsTrue (starts unit on t) → suc s < category_count unit → IsTrue (may_cost_as unit (last_stop unit on t) t s)
    → ((k : ℕ) → k < s → may_cost_as unit (last_stop unit on t) t k ≡ false) → IsTrue (is_category_allowed unit on (suc s) t)
first_allowed periods unit on t s regular allowed within start inside costs none =
    or_right (suc s == category_count unit) _ (and_from _ _ (lt-ltb _ _ inside) (⊎_elim
    (λ (reached : IsTrue (nat_le lag (suc t))).
    cond-true _ _ _ reached ∙ after (leb-true _ _ reached) (and_parts _ _ (sym (cond-true _ _ _ reached) ∙ costs)).1)
    (λ (ahead : nat_le lag (suc t) ≡ false). cond-false _ _ _ ahead ∙ sym (cond-false _ _ _ ahead) ∙ costs)
    (cases_Bool (nat_le lag (suc t)))))
  where
    lag : ℕ
    lag = category_lag unit (suc (suc s))

    after : lag ≤ suc t → IsTrue (stopped_within (last_stop unit on t) (lag - 1) t)
        → IsTrue (has_stop_within unit on (category_lag unit (suc s)) lag t)
    after reached h =
        let found = stopped (last_stop unit on t) (lag - 1) t h in
        let l = found.0 in
        let is = last_stop-is unit on t l found.1 in
        let off = long_off periods unit on l t allowed within is.0 is.1 start in
        let rising = regular.lags (suc s) (omega arith) inside in
        let since = lag_reached unit (last_stop unit on t) l t regular found.1 off s (omega arith) (omega (arith, rising)) none in
        let back : t - (t - l) ≡ l = omega (arith, is.0) in
        any_below-from lag (λ i. nat_le (category_lag unit (suc s)) i && stops unit on (t - i)) (t - l) (omega (arith, found.2, is.0))
        (and_from _ _ (le-leb _ _ since) (subst (λ k. IsTrue (stops unit on k)) (sym back) is.1))

last_allowed : (unit : Thermal) (on : Commitment) (t n : ℕ) → n ≡ category_count unit → 1 ≤ n → IsTrue (is_category_allowed unit on n t)
last_allowed unit on t zero e some = absurd (omega arith)
last_allowed unit on t (suc n) e some = or_left (suc n == category_count unit) _ (eq-eqb _ _ e)

-- ---- the least of values that don't decrease
-- the least value is that at the first index that passes the test, or the other one where none does
record FirstOf (n : ℕ) (test : ℕ → Bool) (f : ℕ → ℤ) (value : ℤ) : Type 0 where
  pub place : ℕ
  pub below : place < n
  pub passes : IsTrue (test place)
  pub first : (k : ℕ) → k < place → test k ≡ false
  pub value_is : value ≡ f place

least_first : (n : ℕ) (test : ℕ → Bool) (f : ℕ → ℤ) (other : ℤ) → ((i j : ℕ) → i ≤ j → j < n → f i ≤ℤ f j) → ((i : ℕ) → i < n → f i ≤ℤ other)
    → (FirstOf n test f (least_below n test f other)) ⊎ (((k : ℕ) → k < n → test k ≡ false) × (least_below n test f other ≡ other))
least_first zero test f other rising most = inr (λ k h. absurd (omega arith), refl)
least_first (suc n) test f other rising most = ⊎_elim
    (λ (found : FirstOf n test f (least_below n test f other)). inl (record {
      place = found.place;
      below = omega (arith, found.below);
      passes = found.passes;
      first = found.first;
      value_is = kept (test n) (f n) _ (subst (λ z. z ≤ℤ f n) (sym found.value_is) (rising found.place n (omega (arith, found.below)) (omega arith))) ∙ found.value_is;
    }))
    (λ (none : ((k : ℕ) → k < n → test k ≡ false) × (least_below n test f other ≡ other)). ⊎_elim
    (λ (here : IsTrue (test n)). inl (record {
      place = n;
      below = omega arith;
      passes = here;
      first = none.0;
      value_is = cond-true _ _ _ here ∙ lower (f n) _ (subst (λ z. f n ≤ℤ z) (sym none.1) (most n (omega arith)));
    }))
    (λ (not_here : test n ≡ false). inr (
      λ k h. ⊎_elim
          (λ (less : k < n). none.0 k less)
          (λ (last : k ≡ n). ap test last ∙ not_here)
          (below_or_last n k h),
      cond-false _ _ _ not_here ∙ none.1,
    ))
    (cases_Bool (test n)))
    (least_first n test f other (λ i j h k. rising i j h (omega arith)) (λ i h. most i (omega arith)))
  where
    kept : (b : Bool) (x y : ℤ) → y ≤ℤ x → cond b (int_min x y) y ≡ y
    kept true x y h = grind (arith, ints)
    kept false x y h = refl

    lower : (x y : ℤ) → x ≤ℤ y → int_min x y ≡ x
    lower x y h = grind (arith, ints)

-- costs rise from each category to each later one
costs_rise : (unit : Thermal) → AreStartsRegular unit → (i j : ℕ) → i ≤ j → j < category_count unit
    → category_cost unit (suc i) ≤ℤ category_cost unit (suc j)
costs_rise unit regular i zero h inside = subst (λ k. category_cost unit (suc k) ≤ℤ category_cost unit 1) (sym none) (omega (arith, ints))
  where
    none : i ≡ 0
    none = omega arith
costs_rise unit regular i (suc j) h inside = ⊎_elim
    (λ (less : i < suc j).
    let before = costs_rise unit regular i j (omega arith) (omega arith) in
    let next = regular.costs (suc j) (omega arith) inside in
    omega (arith, ints, before, next))
    (λ (same : i ≡ suc j). subst (λ k. category_cost unit (suc k) ≤ℤ category_cost unit (suc (suc j))) (sym same) (omega (arith, ints)))
    (grind arith)

-- ---- the law
pub regular : RegularStarts
regular periods unit on t lawful rows allowed within start =
    let count = category_count unit in
    let last = last_stop unit on t in
    let costs = λ (k : ℕ). category_cost unit (suc k) in
    let least = λ (s : ℕ) (h : IsTrue (is_category_allowed unit on s t)). sigma-le-allowed unit on s t start h in
    let end : suc (count - 1) ≡ count = omega (arith, lawful.categories.0) in
    ⊎_elim
    (λ (found : FirstOf (count - 1) (may_cost_as unit last t) costs (sigma unit last t)). record {
      category = suc found.place;
      allowed = first_allowed periods unit on t found.place rows allowed within start (omega (arith, found.below)) found.passes found.first;
      reached = found.value_is;
      least = least;
    })
    (λ (none : ((k : ℕ) → k < count - 1 → may_cost_as unit last t k ≡ false) × (sigma unit last t ≡ category_cost unit count)). record {
      category = count;
      allowed = last_allowed unit on t count refl lawful.categories.0;
      reached = none.1;
      least = least;
    })
    (least_first (count - 1) (may_cost_as unit last t) costs (category_cost unit count)
    (λ i j h k. costs_rise unit rows i j h (omega arith))
    (λ i h. subst (λ k. costs i ≤ℤ category_cost unit k) end (costs_rise unit rows i (count - 1) (omega arith) (omega (arith, lawful.categories.0)))))

-- so the cheapest allowed category costs it
pub regular_cost : (periods : ℕ) (unit : Thermal) (on : Commitment) (t s : ℕ) → IsLawfulThermal unit → AreStartsRegular unit
    → IsTrue (is_allowed periods unit on) → t < periods → IsTrue (starts unit on t) → IsTrue (is_category_allowed unit on s t)
    → ((k : ℕ) → IsTrue (is_category_allowed unit on k t) → category_cost unit s ≤ℤ category_cost unit k)
    → category_cost unit s ≡ sigma unit (last_stop unit on t) t
regular_cost periods unit on t s lawful rows allowed within start own cheapest =
    let whole = regular periods unit on t lawful rows allowed within start in
    let above = whole.least s own in
    let below = cheapest whole.category whole.allowed in
    let is = whole.reached in
    omega (arith, ints, above, below, is)
