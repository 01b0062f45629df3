-- Each limit of the program is there once: the limits that are the same as one add up to 1.
-- Cite by `use Rattle.dispatch_rules.proofs.Distinct.{limits_are_once}`.
use Rattle.std.proofs.Common.{◌≡◌, ℕ, zero, suc, ◌+◌, ◌<◌, ◌≤◌, true, ◌&&◌, ⊎_elim, refl, sym, ap, ◌∙◌, arith, List, [], ◌∷◌, ◌++◌, length, slice_index_or, ℤ, pos, ◌+ℤ◌, ◌≤ℤ◌}
use Rattle.std.proofs.lemmas.Bool.{cases_lt, cond-true, cond_both, eq-eqb}
use Rattle.std.proofs.lemmas.List.{length-append, get_or_append_left, get_or-append-add}
use Rattle.uc_model.specs.Prelude.{sum_below, Demand, rule_units}
use Rattle.uc_model.proofs.Common.{linear, pos_nonneg, sum_below-same, sum_below-split, sum_below-single, term-le-sum_below}
use Rattle.dispatch_rules.specs.Dispatch.{Task, Limit, limit, is_same, listed, copies, limits_of, limits, limit_at, rule_from, over_cells, over_limits, times_of, LimitsAreOnce}
use Rattle.dispatch_rules.proofs.Multipliers.{same-equal, is_same-refl, where_same, IsListed, limit_at-listed, at_listed}

-- ---- the sum over a list in order
module _ {A : Type 0} (d : A) (F : A → ℤ) where
  abbrev over : List A → ℤ
  over xs = sum_below (length xs) (λ i. F (slice_index_or xs i d))

  over-append : (xs ys : List A) → over (xs ++ ys) ≡ over xs +ℤ over ys
  over-append xs ys =
      ap (λ n. sum_below n (λ i. F (slice_index_or (xs ++ ys) i d))) (length-append xs ys)
      ∙ sum_below-split (length xs) (length ys) (λ i. F (slice_index_or (xs ++ ys) i d))
      ∙ (λ j. sum_below-same (length xs) (λ i. F (slice_index_or (xs ++ ys) i d)) (λ i. F (slice_index_or xs i d)) (λ i l. ap F (get_or_append_left xs ys d i l)) j
      +ℤ sum_below-same (length ys) (λ i. F (slice_index_or (xs ++ ys) (length xs + i) d)) (λ i. F (slice_index_or ys i d)) (λ i l. ap F (get_or-append-add xs ys i d)) j)

  over-listed : (n : ℕ) (f : ℕ → List A) → over (listed n f) ≡ sum_below n (λ j. over (f j))
  over-listed zero f = refl
  over-listed (suc n) f = over-append (listed n f) (f n) ∙ ap (λ z. z +ℤ over (f n)) (over-listed n f)

  over-one : (x : A) → over (x ∷ []) ≡ F x
  over-one x = omega (arith, linear)

pub limits_sum : (task : Task) (F : Limit → ℤ) → sum_below (length (limits task)) (λ i. F (limit_at task i)) ≡ over_limits task F
limits_sum task F =
    let none = limit Demand 0 0 0 in
    over-listed none F 10 (λ n. limits_of task (rule_from n))
    ∙ sum_below-same 10 (λ n. over none F (limits_of task (rule_from n))) (λ n. over_cells task (rule_from n) F) (λ n hn.
    over-listed none F (rule_units (rule_from n) task.instance) (λ g. listed task.instance.periods (λ t. listed (copies task (rule_from n) g t) (λ k. limit (rule_from n) g t k ∷ [])))
    ∙ sum_below-same (rule_units (rule_from n) task.instance) _ (λ g. sum_below task.instance.periods (λ t. sum_below (copies task (rule_from n) g t) (λ k. F (limit (rule_from n) g t k)))) (λ g hg.
    over-listed none F task.instance.periods (λ t. listed (copies task (rule_from n) g t) (λ k. limit (rule_from n) g t k ∷ []))
    ∙ sum_below-same task.instance.periods _ (λ t. sum_below (copies task (rule_from n) g t) (λ k. F (limit (rule_from n) g t k))) (λ t ht.
    over-listed none F (copies task (rule_from n) g t) (λ k. limit (rule_from n) g t k ∷ [])
    ∙ sum_below-same (copies task (rule_from n) g t) _ (λ k. F (limit (rule_from n) g t k)) (λ k hk. over-one none F (limit (rule_from n) g t k)))))

-- ---- two terms of a sum
two-le : (n : ℕ) (f : ℕ → ℤ) (i j : ℕ) → i < j → j < n → ((k : ℕ) → k < n → pos 0 ≤ℤ f k) → (f i +ℤ f j) ≤ℤ sum_below n f
two-le zero f i j h l e = absurd (omega arith)
two-le (suc n) f i j h l e = ⊎_elim
    (λ (less : j < n). let before = two-le n f i j h less (λ k m. e k (omega arith)) in let last = e n (omega arith) in omega (arith, linear))
    (λ (most : n ≤ j).
    let same : j ≡ n = omega arith in
    let term = term-le-sum_below n f i (omega arith) (λ k m. e k (omega arith)) in
    let at = ap f same in
    omega (arith, linear))
    (cases_lt j n)

where_nonneg : (a b : Limit) → pos 0 ≤ℤ where_same a b (pos 1)
where_nonneg a b = cond_both (is_same a b) (pos 1) (pos 0) (λ z. pos 0 ≤ℤ z) (λ e. pos_nonneg 1) (λ e. pos_nonneg 0)

module _ (task : Task) where
  abbrev count : ℕ
  count = length (limits task)

  once : (l : Limit) → IsListed task l → sum_below count (λ j. where_same l (limit_at task j) (pos 1)) ≡ pos 1
  once l is = limits_sum task (λ other. where_same l other (pos 1)) ∙ at_listed task l (λ other. pos 1) is

  -- two rules are not of one limit
  apart : (i j : ℕ) → i < j → j < count → is_same (limit_at task i) (limit_at task j) ≡ true → ⊥
  apart i j h l same =
      let x = limit_at task i in
      let whole = once x (limit_at-listed task i (omega arith)) in
      let two = two-le count (λ k. where_same x (limit_at task k) (pos 1)) i j h l (λ k m. where_nonneg x (limit_at task k)) in
      let own : where_same x (limit_at task i) (pos 1) ≡ pos 1 = cond-true (is_same x x) (pos 1) (pos 0) (is_same-refl x) in
      let other : where_same x (limit_at task j) (pos 1) ≡ pos 1 = cond-true (is_same x (limit_at task j)) (pos 1) (pos 0) same in
      omega (arith, linear)

  turned : (a b : Limit) → is_same a b ≡ true → is_same b a ≡ true
  turned a b h =
      let e = same-equal a b h in
      let r = eq-eqb _ _ (sym e.rule) in
      let u = eq-eqb b.unit a.unit (sym e.unit) in
      let t = eq-eqb b.period a.period (sym e.period) in
      let k = eq-eqb b.segment a.segment (sym e.segment) in
      λ i. r i && (u i && (t i && k i))

  -- how often a limit stands in a row is what its rule says
  pub times_of-own : (times : ℕ → ℤ) (i : ℕ) → i < count → times_of task times (limit_at task i) ≡ times i
  times_of-own times i h =
      sum_below-single count (λ j. where_same (limit_at task j) (limit_at task i) (times j)) i h
      (λ j l other. cond_both (is_same (limit_at task j) (limit_at task i)) (times j) (pos 0) (λ z. z ≡ pos 0)
      (λ same. absurd (⊎_elim
      (λ (less : j < i). apart j i less h same)
      (λ (most : i ≤ j). apart i j (omega arith) l (turned (limit_at task j) (limit_at task i) same))
      (cases_lt j i)))
      (λ e. refl))
      ∙ cond-true (is_same (limit_at task i) (limit_at task i)) (times i) (pos 0) (is_same-refl (limit_at task i))

pub limits_are_once : LimitsAreOnce
limits_are_once task times i h = times_of-own task times i h
