-- The rules as the code has them are those of the commitment's program: their places, signs and multipliers are the same.
-- Cite by `use Rattle.dispatch_prices.proofs.SameRules.{multiplier_same, has_size}`.
use Rattle.std.proofs.Common.{◌≡◌, ℕ, zero, suc, ◌+◌, ◌<◌, ◌≤◌, Bool, not, ◌||◌, ⊎_elim, inl, inr, refl, sym, ap, subst, ◌∙◌, arith, List, length, ℤ, pos, ◌-ℤ◌, ◌*ℤ◌, neg_ℤ, int_lt, slice_index_or, if◌then◌else◌}
use Rattle.std.proofs.lemmas.List.{length-map, get_or-map}
use Rattle.pivot_run.specs.Prelude.{entry}
use Rattle.pivot_run.specs.Tables as pivots
use Rattle.dispatch_program.specs.Prelude.{Program, Slack, Artificial, SumValue, RightSide, bump, counted, is_limit, is_negated, has_artificial, sign, place, multiplier}
use Rattle.dispatch_program.proofs.LastTables.{count}
use Rattle.dispatch_rules.specs.Prelude.{Task, limit, limits, is_demand, right_of, program}
use Rattle.uc_model.specs.Prelude.{Demand}
use Rattle.dispatch_rules.specs.declared.limit.LimitAt.{LimitAt}
use Rattle.dispatch_prices.specs.ReadOff.{IsEndOf, ReadingForms, rules_of}
use Rattle.dispatch_prices.specs.Readings.{FinalTableau, Unfit, HasSize, IsEndAt, IsUnfit}
use Rattle.dispatch_prices.specs.declared.unfit.Unfit.TheVariants.{Product, Multiplier, NoMemory}
use Rattle.dispatch_prices.proofs.TimesBy.{count_is, limit_is}

counted_same : (a b : ℕ → Bool) (n : ℕ) → ((i : ℕ) → i < n → a i ≡ b i) → counted a n ≡ counted b n
counted_same a b zero each = refl
counted_same a b (suc n) each = λ i. counted_same a b n (λ k h. each k (omega arith)) i + bump (each n (omega arith) i)

module _ (task : Task) (unknowns : ℕ) (listed_limits : List LimitAt) (rights : List ℤ) (t : pivots.Table)
    (is : IsEndOf task unknowns listed_limits rights t) where
  abbrev own : Program
  own = rules_of unknowns listed_limits rights

  abbrev p : Program
  p = program task

  pub rules_same : length listed_limits ≡ length (limits task)
  rules_same = count_is task listed_limits is.limits_are

  pub equality_same : (i : ℕ) → own.is_equality i ≡ p.is_equality i
  equality_same i = ap is_demand (limit_is task listed_limits is.limits_are i)

  right_same : (i : ℕ) → i < length (limits task) → own.right i ≡ p.right i
  right_same i h = ap (λ xs. slice_index_or xs i (pos 0)) is.rights_are ∙ get_or-map (right_of task) (limits task) i (limit Demand 0 0 0) (pos 0) h

  negated_same : (i : ℕ) → i < length (limits task) → is_negated own i ≡ is_negated p i
  negated_same i h = ap (λ z. int_lt z (pos 0)) (right_same i h)

  pub sign_same : (i : ℕ) → i < length (limits task) → sign own i ≡ sign p i
  sign_same i h = ap (λ b. if b then neg_ℤ (pos 1) else pos 1) (negated_same i h)

  slacks_same : (i : ℕ) → counted (is_limit own) i ≡ counted (is_limit p) i
  slacks_same i = counted_same (is_limit own) (is_limit p) i (λ k h. ap not (equality_same k))

  artificials_same : (i : ℕ) → i ≤ length (limits task) → counted (has_artificial own) i ≡ counted (has_artificial p) i
  artificials_same i h = counted_same (has_artificial own) (has_artificial p) i (λ k l. λ j. equality_same k j || negated_same k (omega arith) j)

  all_slacks : counted (is_limit own) own.rules ≡ counted (is_limit p) p.rules
  all_slacks = ap (counted (is_limit own)) rules_same ∙ slacks_same p.rules

  all_artificials : counted (has_artificial own) own.rules ≡ counted (has_artificial p) p.rules
  all_artificials = ap (counted (has_artificial own)) rules_same ∙ artificials_same p.rules (omega arith)

  slack_place : (i : ℕ) → place own (Slack i) ≡ place p (Slack i)
  slack_place i = λ j. is.unknowns_are j + slacks_same i j

  pub artificial_place : (i : ℕ) → i < length (limits task) → place own (Artificial i) ≡ place p (Artificial i)
  artificial_place i h = λ j. is.unknowns_are j + (all_slacks j + artificials_same i (omega arith) j)

  pub sum_place : place own SumValue ≡ place p SumValue
  sum_place = λ j. is.unknowns_are j + (all_slacks j + (all_artificials j + 0))

  right_place : place own RightSide ≡ place p RightSide
  right_place = λ j. is.unknowns_are j + (all_slacks j + (all_artificials j + 2))

  pub multiplier_same : (row : List ℤ) (i : ℕ) → i < length (limits task) → multiplier own row i ≡ multiplier p row i
  multiplier_same row i h =
      λ j. if equality_same i j then sign_same i h j *ℤ (entry row (artificial_place i h j) -ℤ entry row (sum_place j)) else entry row (slack_place i j)

  -- the sizes
  pub columns_is : t.columns ≡ place own RightSide + 1
  columns_is = is.reached.keeps.columns ∙ ap (λ n. n + 1) (sym right_place)

  pub rows_is : length t.rows ≡ length listed_limits + 2
  rows_is = let size = count (program task) t is.reached in omega (arith, rules_same)

  pub rights_is : length rights ≡ length listed_limits
  rights_is = ap length is.rights_are ∙ length-map (limits task) (right_of task) ∙ sym rules_same

  -- the products that reading forms
  pub forms_same : (row : List ℤ) (a b : ℤ) → ReadingForms p row a b → ReadingForms own row a b
  forms_same row a b forms =
      let f = forms.1.1 in
      let h = forms.1.0 in (
        forms.0,
        (
          subst (λ n. forms.0 < n) (sym rules_same) forms.1.0,
          (
            equality_same forms.0 ∙ forms.1.1.0,
            (
              forms.1.1.1.0 ∙ sym (sign_same forms.0 forms.1.0),
              ⊎_elim (λ (e : b ≡ entry row (place p (Artificial forms.0))). inl (e ∙ ap (entry row) (sym (artificial_place forms.0 forms.1.0))))
                  (λ (e : b ≡ entry row (place p SumValue)). inr (e ∙ ap (entry row) (sym sum_place))) forms.1.1.1.1,
            ),
          ),
        ),
      )

  pub forms_back : (row : List ℤ) (a b : ℤ) → ReadingForms own row a b → ReadingForms p row a b
  forms_back row a b forms =
      let h : forms.0 < length (limits task) = subst (λ n. forms.0 < n) rules_same forms.1.0 in (
        forms.0,
        (
          h,
          (
            sym (equality_same forms.0) ∙ forms.1.1.0,
            (
              forms.1.1.1.0 ∙ sign_same forms.0 h,
              ⊎_elim (λ (e : b ≡ entry row (place own (Artificial forms.0))). inl (e ∙ ap (entry row) (artificial_place forms.0 h)))
                  (λ (e : b ≡ entry row (place own SumValue)). inr (e ∙ ap (entry row) sum_place)) forms.1.1.1.1,
            ),
          ),
        ),
      )

  pub unfit_same : (row : List ℤ) (unfit : Unfit) → IsUnfit own listed_limits row unfit → IsUnfit p listed_limits row unfit
  unfit_same row (Product wide) h = (forms_back row wide.size wide.other h.0, h.1)
  unfit_same row (Multiplier z) h =
      let within : h.0 < length (limits task) = subst (λ n. h.0 < n) rules_same h.1 in
      (h.0, within, h.2, h.3 ∙ multiplier_same row h.0 within, h.4)
  unfit_same row NoMemory h = tt

pub has_size : (task : Task) (end : FinalTableau) → IsEndAt task end → HasSize end
has_size task end is = record {
  columns = columns_is task end.unknowns end.limits.now end.rights.now end.table.now is;
  rows = rows_is task end.unknowns end.limits.now end.rights.now end.table.now is;
  rights = rights_is task end.unknowns end.limits.now end.rights.now end.table.now is;
}
