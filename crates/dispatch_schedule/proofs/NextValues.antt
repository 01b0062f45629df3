-- The list of values with one more row, and the least common multiple of one more denominator.
-- Cite by `use Rattle.dispatch_schedule.proofs.NextValues.{values_next, next_is, next_narrow, next_positive}`.
use Rattle.std.proofs.Common.{◌≡◌, ◌≢◌, ℕ, suc, ◌+◌, ◌<◌, ◌==◌, ⊎_elim, sym, ap, subst, ◌∙◌, arith, List, length, slice_index_or, slice_set, ℤ, pos, ◌<ℤ◌}
use Rattle.std.proofs.lemmas.Bool.{cases_eq, cond-true, cond-false, eq-eqb, ne_eqb}
use Rattle.std.proofs.lemmas.List.{get_or_default}
use Rattle.std.proofs.Math.ListN.{length-set}
use Rattle.std.proofs.Common.{get_or-set_same, get_or-set_other}
use Rattle.uc_model.proofs.Common.{below_or_last}
use Rattle.fractions.specs.declared.fraction.Fraction.{Fraction}
use Rattle.fractions.specs.Fractions.{joined, JoinForms}
use Rattle.fractions.proofs.Divided.{joined_are_least}
use Rattle.pivot_run.specs.Prelude.{IsNarrow, Table, basic}
use Rattle.dispatch_schedule.specs.ColumnValues.{nothing, row_value, value_to}
use Rattle.dispatch_schedule.specs.inside.Values.{AreValuesTo, ArePositive, JoiningForms, fraction_at, joined_to}

-- ---- one more row
value_next : (t : Table) (k c : ℕ) (xs : List Fraction) → c < length xs → fraction_at xs c ≡ value_to t k c
    → fraction_at (slice_set xs (basic t k) (row_value t k)) c ≡ value_to t (suc k) c
value_next t k c xs h before = ⊎_elim
    (λ (same : basic t k ≡ c).
    let within : basic t k < length xs = omega arith in
    ap (λ n. fraction_at (slice_set xs (basic t k) (row_value t k)) n) (sym same)
    ∙ get_or-set_same xs (basic t k) (row_value t k) nothing within
    ∙ sym (cond-true (basic t k == c) (row_value t k) (value_to t k c) (eq-eqb (basic t k) c same)))
    (λ (other : basic t k ≢ c).
    get_or-set_other xs (basic t k) c (row_value t k) nothing (λ e. other (sym e))
    ∙ before
    ∙ sym (cond-false (basic t k == c) (row_value t k) (value_to t k c) (ne_eqb (basic t k) c other)))
    (cases_eq (basic t k) c)

pub values_next : (t : Table) (k columns : ℕ) (xs new : List Fraction) → AreValuesTo t k columns xs
    → new ≡ slice_set xs (basic t k) (row_value t k) → AreValuesTo t (k + 1) columns new
values_next t k columns xs new before is =
    let at : suc k ≡ k + 1 = omega arith in
    subst (λ n. AreValuesTo t n columns new) at
    (subst (AreValuesTo t (suc k) columns) (sym is) record {
      count = length-set xs (basic t k) (row_value t k) ∙ before.count;
      each = λ c h. value_next t k c xs (let size = before.count in omega arith) (before.each c h);
    })

-- ---- one more denominator
module _ (fractions : List Fraction) (i : ℕ) (within : i < length fractions) (old least : ℤ) (d : Fraction) (is : old ≡ joined_to fractions i) where
  read : (slice_index_or fractions i d).denominator ≡ (fraction_at fractions i).denominator
  read = ap (λ (f : Fraction). f.denominator) (get_or_default fractions i d nothing within)

  pub next_is : least ≡ joined old (slice_index_or fractions i d).denominator → least ≡ joined_to fractions (i + 1)
  next_is own =
      let at : suc i ≡ i + 1 = omega arith in
      own ∙ (λ j. joined (is j) (read j)) ∙ ap (joined_to fractions) at

  pub next_positive : ArePositive fractions → pos 0 <ℤ old → least ≡ joined old (slice_index_or fractions i d).denominator → pos 0 <ℤ least
  next_positive each positive own =
      subst (λ z. pos 0 <ℤ z) (sym own)
      (joined_are_least old (slice_index_or fractions i d).denominator positive (subst (λ z. pos 0 <ℤ z) (sym read) (each i within))).positive

  pub next_narrow : IsNarrow (JoiningForms fractions i) → IsNarrow (JoinForms old (slice_index_or fractions i d).denominator) → IsNarrow (JoiningForms fractions (i + 1))
  next_narrow before own a b forms = ⊎_elim
      (λ (less : forms.0 < i). before a b (forms.0, less, forms.2))
      (λ (same : forms.0 ≡ i). own a b
      (subst (λ m. JoinForms m (slice_index_or fractions i d).denominator a b) (sym is)
      (subst (λ z. JoinForms (joined_to fractions i) z a b) (sym read)
      (subst (λ n. JoinForms (joined_to fractions n) (fraction_at fractions n).denominator a b) same forms.2))))
      (below_or_last i forms.0 (let h = forms.1 in omega arith))
