-- What the last stop adds to the start categories: those whose lags the gap since then lies between. So a start costs the least
-- of what it costs without a stop in the horizon and of these, and after a longer gap than any lag nothing is added.
use Rattle.std.proofs.Common.{◌≡◌, ℕ, zero, suc, ◌+◌, ◌-◌, ◌<◌, ◌≤◌, Bool, true, false, ◌&&◌, ◌||◌, cond, refl, sym, ap, ◌∙◌, arith, ℤ, Some, None, nat_le}
use Rattle.std.specs.Int.{int_min}
use Rattle.std.proofs.lemmas.Int.{ints}
use Rattle.std.proofs.lemmas.Bool.{lt-leb, ltb-true}
use Rattle.uc_model.specs.Prelude.{least_below, category_cost, category_count, category_lag, may_cost_as, sigma}
use Rattle.uc_model.specs.declared.instance.Thermal.{Thermal}
use Rattle.dual_model.specs.Prelude.{stop_since}
use Rattle.unit_path.specs.inside.StartCosts.{is_within_lags, row_of}

-- ---- least values by two tests

least-test : (n : ℕ) (p q : ℕ → Bool) (f : ℕ → ℤ) (other : ℤ) → ((k : ℕ) → k < n → p k ≡ q k) → least_below n p f other ≡ least_below n q f other
least-test zero p q f other e = refl
least-test (suc n) p q f other e =
    λ i. cond (e n (omega arith) i) (int_min (f n) (least-test n p q f other (λ k h. e k (omega arith)) i)) (least-test n p q f other (λ k h. e k (omega arith)) i)

chosen-first : (b : Bool) (x y r s : ℤ) → s ≡ int_min x r → cond b (int_min y s) s ≡ int_min x (cond b (int_min y r) r)
chosen-first true x y r s e = ap (int_min y) e ∙ (grind (arith, ints))
chosen-first false x y r s e = e

-- a number less than `other` may as well be taken last
least-first : (n : ℕ) (p : ℕ → Bool) (f : ℕ → ℤ) (x other : ℤ) → least_below n p f (int_min x other) ≡ int_min x (least_below n p f other)
least-first zero p f x other = refl
least-first (suc n) p f x other = chosen-first (p n) x (f n) (least_below n p f other) _ (least-first n p f x other)

chosen-either : (p q : Bool) (x a l : ℤ) (by_q : ℤ → ℤ) → ((y z : ℤ) → by_q (int_min y z) ≡ int_min y (by_q z)) → a ≡ by_q l
    → cond (p || q) (int_min x a) a ≡ cond q (int_min x (by_q (cond p (int_min x l) l))) (by_q (cond p (int_min x l) l))
chosen-either true true x a l by_q first e = ap (int_min x) e ∙ (grind (arith, ints)) ∙ ap (int_min x) (sym (first x l))
chosen-either true false x a l by_q first e = ap (int_min x) e ∙ sym (first x l)
chosen-either false true x a l by_q first e = ap (int_min x) e
chosen-either false false x a l by_q first e = e

-- what passes one of two tests: first what passes one, and from there what passes the other
least-either : (n : ℕ) (p q : ℕ → Bool) (f : ℕ → ℤ) (other : ℤ)
    → least_below n (λ k. p k || q k) f other ≡ least_below n q f (least_below n p f other)
least-either zero p q f other = refl
least-either (suc n) p q f other = grind (arith, ints, chosen-either, least-first, (least-either n p q f other))

-- ---- one category
not_added : (reached ordered near free : Bool) → (ordered ≡ true → near ≡ false) → cond reached (ordered && near) free ≡ cond reached (ordered && false) free
not_added true true near free e = e refl
not_added true false near free e = refl
not_added false ordered near free e = refl

lag-next : (unit : Thermal) (s : ℕ) → category_lag unit (suc (suc s)) ≡ (row_of unit.startup (suc s)).lag
lag-next unit s = let e : suc (suc s) - 1 ≡ suc s = omega arith in ap (λ k. (row_of unit.startup k).lag) e

may_cost-gap : (unit : Thermal) (gap t s : ℕ) → gap ≤ t
    → may_cost_as unit (Some (t - gap)) t s ≡ (may_cost_as unit None t s || is_within_lags unit.startup s gap t)
may_cost-gap unit gap t s h = grind (arith, ints, h)

-- ---- all of them
pub sigma-gap : (unit : Thermal) (gap t : ℕ) → gap ≤ t → sigma unit (Some (t - gap)) t
    ≡ least_below (category_count unit - 1) (λ s. is_within_lags unit.startup s gap t) (λ s. (row_of unit.startup s).cost) (sigma unit None t)
sigma-gap unit gap t h =
    least-test (category_count unit - 1) (may_cost_as unit (Some (t - gap)) t) (λ s. may_cost_as unit None t s || is_within_lags unit.startup s gap t)
    (λ s. category_cost unit (suc s)) (category_cost unit (category_count unit)) (λ s l. may_cost-gap unit gap t s h)
    ∙ least-either (category_count unit - 1) (may_cost_as unit None t) (λ s. is_within_lags unit.startup s gap t)
    (λ s. category_cost unit (suc s)) (category_cost unit (category_count unit))

pub sigma-cold : (unit : Thermal) (l t longest : ℕ) → ((s : ℕ) → s < category_count unit → (row_of unit.startup s).lag ≤ longest) → l + longest ≤ t
    → sigma unit (Some l) t ≡ sigma unit None t
sigma-cold unit l t longest most h = grind (arith, ints, least-test, not_added, nat_le, ltb-true, lag-next, lt-leb, most, h)

-- the same by the time since which the unit is off
pub sigma-cold_since : (unit : Thermal) (since t longest : ℕ) → 0 < since → ((s : ℕ) → s < category_count unit → (row_of unit.startup s).lag ≤ longest)
    → since - 1 + longest ≤ t → sigma unit (stop_since since) t ≡ sigma unit None t
sigma-cold_since unit zero t longest some most h = absurd (omega arith)
sigma-cold_since unit (suc l) t longest some most h =
    sigma-cold unit l t longest most (omega (arith, (let e : suc l - 1 ≡ l = omega arith in e)))
