-- The least start cost is never above the cost of a category that M6 allows, and its size.
-- Cite from a crate above by `use Rattle.uc_model.proofs.StartCosts.{sigma-le-allowed, sigma-size}`.
use Rattle.std.proofs.Common.{◌≡◌, ℕ, zero, suc, ◌-◌, ◌<◌, ◌≤◌, ◌≢◌, ⊎_elim, false, not, ◌&&◌, cond, sym, ap, subst, ◌∙◌, arith, ℤ, ◌≤ℤ◌, Bool, IsTrue, nat_lt, nat_le, ◌==◌, Option, Some, unsigned_abs}
use Rattle.std.proofs.lemmas.Bool.{and_parts, and_from, or_cases, cases_Bool, cond_both, cond-true, cond-false, true≢false, leb-true, ltb-true, eqb-true, le-leb, lt-ltb}
use Rattle.uc_model.specs.Prelude.{least_below, Thermal, Commitment, starts, stops, category_count, category_lag, category_cost, has_stop_within, is_barred, is_category_allowed, last_stop, stopped_within, may_cost_as, sigma, IsLawfulThermal, MAX_COST}
use Rattle.uc_model.proofs.Sizes.{abs_min}
use Rattle.uc_model.proofs.Tests.{any_below-at, least_below-le, least_below-le-other}

-- where there is a stop before t, the last one is no earlier
pub last_stop-after : (unit : Thermal) (on : Commitment) (t k : ℕ) → k < t → IsTrue (stops unit on k)
    → (l : ℕ) × (last_stop unit on t ≡ Some l) × (k ≤ l)
last_stop-after unit on zero k h s = absurd (omega arith)
last_stop-after unit on (suc t) k h s =
    ⊎_elim
    (λ (here : IsTrue (stops unit on t)). (t, cond-true _ (Some t) (last_stop unit on t) here, omega arith))
    (λ (other : stops unit on t ≡ false).
    let earlier : k < t =
    ⊎_elim
    (λ (less : k < t). less)
    (λ (same : k ≡ t). absurd (true≢false (sym s ∙ ap (λ i. stops unit on i) same ∙ other)))
    (grind arith)
    in
    let found = last_stop-after unit on t k earlier s in
    (found.0, cond-false _ (Some t) (last_stop unit on t) other ∙ found.1, found.2))
    (cases_Bool (stops unit on t))

-- a unit doesn't start and stop in one period
pub not_start_and_stop : (unit : Thermal) (on : Commitment) (t : ℕ) → IsTrue (starts unit on t) → IsTrue (stops unit on t) → ⊥
not_start_and_stop unit on t a b = grind (arith, a, b)

stopped_within-at : (last : Option ℕ) (l most t : ℕ) → last ≡ Some l → t - l ≤ most → IsTrue (stopped_within last most t)
stopped_within-at last l most t e near = subst (λ o. IsTrue (stopped_within o most t)) (sym e) (le-leb (t - l) most near)

-- a stop within a category's lags is one that the last stop shows
after_stop : (unit : Thermal) (on : Commitment) (from lag t : ℕ) → IsTrue (starts unit on t) → lag ≤ suc t
    → IsTrue (has_stop_within unit on from lag t)
    → IsTrue (nat_lt from lag && stopped_within (last_stop unit on t) (lag - 1) t)
after_stop unit on from lag t start reached h =
    let found = any_below-at lag (λ i. nat_le from i && stops unit on (t - i)) h in
    let i = found.0 in
    let parts = and_parts _ _ found.2 in
    let since : from ≤ i = leb-true _ _ parts.0 in
    let below : i < lag = found.1 in
    let later : i ≢ 0 = λ e. let now : t - i ≡ t = omega arith in not_start_and_stop unit on t start (subst (λ k. IsTrue (stops unit on k)) now parts.1) in
    let last = last_stop-after unit on t (t - i) (omega arith) parts.1 in
    let near : t - last.0 ≤ lag - 1 = omega (arith, last.2) in
    and_from _ _
    (lt-ltb _ _ (omega arith))
    (stopped_within-at (last_stop unit on t) last.0 (lag - 1) t last.1 near)

-- a category that M6 allows, and that isn't the last one, is one that the last stop allows
may_cost-allowed : (unit : Thermal) (on : Commitment) (s t : ℕ) → IsTrue (starts unit on t)
    → IsTrue (cond (nat_le (category_lag unit (suc (suc s))) (suc t))
    (has_stop_within unit on (category_lag unit (suc s)) (category_lag unit (suc (suc s))) t)
    (not (is_barred unit.dt0 (category_lag unit (suc (suc s))) t)))
    → IsTrue (may_cost_as unit (last_stop unit on t) t s)
may_cost-allowed unit on s t start h = grind (arith, nat_le, cond-true, after_stop, leb-true, cond-false, cases_Bool, start, h)

pub sigma-le-allowed : (unit : Thermal) (on : Commitment) (s t : ℕ) → IsTrue (starts unit on t) → IsTrue (is_category_allowed unit on s t)
    → sigma unit (last_stop unit on t) t ≤ℤ category_cost unit s
sigma-le-allowed unit on zero t start h = absurd (true≢false (sym h))
sigma-le-allowed unit on (suc s) t start h =
    let last = last_stop unit on t in
    let costs = λ (k : ℕ). category_cost unit (suc k) in
    ⊎_elim
    (λ (final : IsTrue (suc s == category_count unit)).
    subst (λ k. sigma unit last t ≤ℤ category_cost unit k) (sym (eqb-true _ _ final))
    (least_below-le-other (category_count unit - 1) (may_cost_as unit last t) costs (category_cost unit (category_count unit))))
    (λ (rest : IsTrue (nat_lt (suc s) (category_count unit)
    && cond (nat_le (category_lag unit (suc (suc s))) (suc t))
    (has_stop_within unit on (category_lag unit (suc s)) (category_lag unit (suc (suc s))) t)
    (not (is_barred unit.dt0 (category_lag unit (suc (suc s))) t)))).
    let parts = and_parts _ _ rest in
    let below : suc s < category_count unit = ltb-true _ _ parts.0 in
    least_below-le (category_count unit - 1) (may_cost_as unit last t) costs (category_cost unit (category_count unit)) s
    (omega arith) (may_cost-allowed unit on s t start parts.1))
    (or_cases _ _ h)

-- ---- it is one of the costs
least_below-size : (n : ℕ) (test : ℕ → Bool) (f : ℕ → ℤ) (other : ℤ) (m : ℕ) → unsigned_abs other ≤ m
    → ((k : ℕ) → k < n → unsigned_abs (f k) ≤ m) → unsigned_abs (least_below n test f other) ≤ m
least_below-size zero test f other m h k = h
least_below-size (suc n) test f other m h k =
    let before = least_below-size n test f other m h (λ i l. k i (omega arith)) in
    cond_both (test n) _ _ (λ x. unsigned_abs x ≤ m) (λ e. abs_min (f n) (least_below n test f other) m (k n (omega arith)) before) (λ e. before)

category_cost-size : (unit : Thermal) → IsLawfulThermal unit → (s : ℕ) → 1 ≤ s → s ≤ category_count unit
    → unsigned_abs (category_cost unit s) ≤ MAX_COST
category_cost-size unit lawful zero h k = absurd (omega arith)
category_cost-size unit lawful (suc s) h k = lawful.start_costs s (omega arith)

pub sigma-size : (unit : Thermal) → IsLawfulThermal unit → (last : Option ℕ) (t : ℕ) → unsigned_abs (sigma unit last t) ≤ MAX_COST
sigma-size unit lawful last t = grind (arith, least_below-size, category_cost-size, lawful)
