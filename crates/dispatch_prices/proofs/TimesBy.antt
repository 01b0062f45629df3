-- How often a limit stands in a row, by the list of the limits.
-- Cite by `use Rattle.dispatch_prices.proofs.TimesBy.{times_at, times_none, times_of-is}`.
use Rattle.std.proofs.Common.{◌≡◌, ℕ, zero, suc, ◌<◌, ◌≤◌, ◌⊎◌, inl, inr, ⊎_elim, unsigned_abs, Bool, true, false, ◌&&◌, ◌==◌, sym, ap, subst, ◌∙◌, arith, List, map, length, ℤ, pos, slice_index_or, if◌then◌else◌}
use Rattle.std.proofs.lemmas.Bool.{cases_Bool, cases_lt, cond-false}
use Rattle.std.proofs.lemmas.List.{length-map}
use Rattle.std.proofs.Math.ListN.{get_or-map}
use Rattle.uc_model.specs.Rules as model
use Rattle.dispatch_rules.specs.declared.limit.LimitRule.TheVariants.{Demand}
use Rattle.uc_model.specs.Prelude.{sum_below, rule_number}
use Rattle.uc_model.proofs.Common.{sum_below-same, sum_below-zero}
use Rattle.dispatch_rules.specs.Prelude.{limit_of, Task, Limit, limit, is_same, limits, limit_at, times_of}
use Rattle.dispatch_rules.specs.declared.limit.LimitAt.{LimitAt}
use Rattle.dispatch_rules.proofs.Multipliers.{AreEqual, same-equal}
use Rattle.dispatch_rules.proofs.Distinct.{limits_are_once}
use Rattle.dispatch_prices.specs.ReadOff.{AreOnce, limit_in, times_by}

-- the same limit is the same as others
same_as : (a b l : Limit) → AreEqual b l → is_same a b ≡ is_same a l
same_as a b l e =
    λ i. (rule_number a.rule == e.rule i) && ((a.unit == e.unit i) && ((a.period == e.period i) && (a.segment == e.segment i)))

-- where it stands
pub times_at : (listed_limits : List LimitAt) (times : ℕ → ℤ) (l : Limit) (i : ℕ) → AreOnce listed_limits → i < length listed_limits
    → is_same (limit_of (limit_in listed_limits i)) l ≡ true → times_by listed_limits times l ≡ times i
times_at listed_limits times l i once h same =
    sum_below-same (length listed_limits) (λ k. if is_same (limit_of (limit_in listed_limits k)) l then times k else pos 0)
    (λ k. if is_same (limit_of (limit_in listed_limits k)) (limit_of (limit_in listed_limits i)) then times k else pos 0)
    (λ k hk. ap (λ b. if b then times k else pos 0)
    (sym (same_as (limit_of (limit_in listed_limits k)) (limit_of (limit_in listed_limits i)) l (same-equal (limit_of (limit_in listed_limits i)) l same))))
    ∙ once times i h

-- where it doesn't
pub times_none : (listed_limits : List LimitAt) (times : ℕ → ℤ) (l : Limit)
    → ((k : ℕ) → k < length listed_limits → is_same (limit_of (limit_in listed_limits k)) l ≡ false) → times_by listed_limits times l ≡ pos 0
times_none listed_limits times l none =
    sum_below-zero (length listed_limits) (λ k. if is_same (limit_of (limit_in listed_limits k)) l then times k else pos 0)
    (λ k h. cond-false (is_same (limit_of (limit_in listed_limits k)) l) (times k) (pos 0) (none k h))

-- the first n numbers have one that passes, or have none
some_or_none : (test : ℕ → Bool) (n : ℕ) → ((i : ℕ) × ((i < n) × (test i ≡ true))) ⊎ ((k : ℕ) → k < n → test k ≡ false)
some_or_none test zero = inr (λ k h. absurd (omega arith))
some_or_none test (suc n) = ⊎_elim
    (λ (found : (i : ℕ) × ((i < n) × (test i ≡ true))). inl (found.0, (omega (arith, found.1.0), found.1.1)))
    (λ (none : (k : ℕ) → k < n → test k ≡ false). ⊎_elim
    (λ (here : test n ≡ true). inl (n, (omega arith, here)))
    (λ (nor : test n ≡ false). inr (λ k h. ⊎_elim
    (λ (less : k < n). none k less)
    (λ (most : n ≤ k). let same : n ≡ k = omega arith in subst (λ j. test j ≡ false) same nor)
    (cases_lt k n)))
    (cases_Bool (test n)))
    (some_or_none test n)

-- so it is no larger than the greatest of them
pub times_within : (listed_limits : List LimitAt) (times : ℕ → ℤ) (l : Limit) (most : ℕ) → AreOnce listed_limits → ((i : ℕ) → unsigned_abs (times i) ≤ most)
    → unsigned_abs (times_by listed_limits times l) ≤ most
times_within listed_limits times l most once within = ⊎_elim
    (λ (found : (i : ℕ) × ((i < length listed_limits) × (is_same (limit_of (limit_in listed_limits i)) l ≡ true))).
    subst (λ z. unsigned_abs z ≤ most) (sym (times_at listed_limits times l found.0 once found.1.0 found.1.1)) (within found.0))
    (λ (none : (k : ℕ) → k < length listed_limits → is_same (limit_of (limit_in listed_limits k)) l ≡ false).
    subst (λ z. unsigned_abs z ≤ most) (sym (times_none listed_limits times l none)) (omega arith))
    (some_or_none (λ i. is_same (limit_of (limit_in listed_limits i)) l) (length listed_limits))

-- ---- a commitment's limits
module _ (task : Task) (listed_limits : List LimitAt) (are : map limit_of listed_limits ≡ limits task) where
  pub count_is : length listed_limits ≡ length (limits task)
  count_is = sym (length-map listed_limits limit_of) ∙ ap length are

  pub limit_is : (i : ℕ) → limit_of (limit_in listed_limits i) ≡ limit_at task i
  limit_is i =
      sym (get_or-map limit_of listed_limits i (record { rule = Demand; unit = 0; period = 0; segment = 0 }))
      ∙ ap (λ xs. slice_index_or xs i (limit model.Demand 0 0 0)) are

  pub times_of-is : (times : ℕ → ℤ) (l : Limit) → times_by listed_limits times l ≡ times_of task times l
  times_of-is times l =
      ap (λ n. sum_below n (λ i. if is_same (limit_of (limit_in listed_limits i)) l then times i else pos 0)) count_is
      ∙ sum_below-same (length (limits task)) (λ i. if is_same (limit_of (limit_in listed_limits i)) l then times i else pos 0)
      (λ i. if is_same (limit_at task i) l then times i else pos 0) (λ i h. ap (λ x. if is_same x l then times i else pos 0) (limit_is i))

  pub are_once : AreOnce listed_limits
  are_once times i h =
      times_of-is times (limit_of (limit_in listed_limits i)) ∙ ap (times_of task times) (limit_is i)
      ∙ limits_are_once task times i (subst (λ n. i < n) count_is h)
