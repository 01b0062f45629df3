-- The values of the columns by a basis: each is its value over the shares' denominator in lowest terms, and its own denominator divides the least
-- common multiple of all.
-- Cite by `use Rattle.dispatch_schedule.proofs.ColumnValues.{has_values, value_positive, value_coprime, value_ratio, denominator_positive, denominator_divides}`.
use Rattle.std.proofs.Common.{◌≡◌, ◌≢◌, ℕ, zero, suc, ◌+◌, ◌-◌, ◌<◌, ◌==◌, ◌⊎◌, ⊎_elim, inl, inr, refl, sym, ap, subst, ◌∙◌, arith, length, ℤ, pos, ◌*ℤ◌, neg_ℤ, ◌<ℤ◌, unsigned_abs}
use Rattle.std.specs.Int.{◌∣◌}
use Rattle.std.proofs.lemmas.Bool.{cases_eq, cond-true, cond-false, eq-eqb, ne_eqb}
use Rattle.std.proofs.lemmas.Nat.Gcd.{dvd_trans}
use Rattle.std.proofs.Math.Nat.{eq-one_of_dvd-one}
use Rattle.uc_model.proofs.Common.{linear, mul_comm, mul_assoc, mul-neg, zero-mul, below_or_last}
use Rattle.fractions.specs.declared.fraction.Fraction.{Fraction}
use Rattle.fractions.specs.Fractions.{IsLowest}
use Rattle.fractions.proofs.Divided.{fractions_are_lowest, joined_are_least}
use Rattle.pivot_run.specs.Prelude.{Table, basic, number, right_side}
use Rattle.dispatch_program.specs.Prelude.{Program, RightSide, SumValue, place, IsReached, AreShares, basis_values}
use Rattle.dispatch_program.proofs.BasicValues.{at_other, value_basic, value_none}
use Rattle.dispatch_program.proofs.LastTables.{count, early_rule}
use Rattle.dispatch_schedule.specs.ColumnValues.{nothing, row_value, value_to, column_value, denominator_to}
use Rattle.dispatch_schedule.specs.inside.Values.{HasValues}

-- ---- where a column's value comes from
pub record IsOfRow (t : Table) (c n k : ℕ) : Type 0 where
  pub within : k < n
  pub column : basic t k ≡ c
  pub value : value_to t n c ≡ row_value t k

pub record IsNothing (t : Table) (c n : ℕ) : Type 0 where
  pub none : (k : ℕ) → k < n → basic t k ≢ c
  pub value : value_to t n c ≡ nothing

pub value_comes : (t : Table) (c n : ℕ) → ((k : ℕ) × IsOfRow t c n k) ⊎ IsNothing t c n
value_comes t c zero = inr (record { none = λ k h. absurd (omega arith); value = refl })
value_comes t c (suc n) = ⊎_elim
    (λ (same : basic t n ≡ c).
    inl (n, record { within = omega arith; column = same; value = cond-true (basic t n == c) (row_value t n) (value_to t n c) (eq-eqb (basic t n) c same) }))
    (λ (other : basic t n ≢ c).
    let next = cond-false (basic t n == c) (row_value t n) (value_to t n c) (ne_eqb (basic t n) c other) in
    ⊎_elim
    (λ (row : (k : ℕ) × IsOfRow t c n k). inl (row.0, record { within = let h = row.1.within in omega arith; column = row.1.column; value = next ∙ row.1.value }))
    (λ (nothing_is : IsNothing t c n).
    inr (record {
      none = λ k h. ⊎_elim (λ (less : k < n). nothing_is.none k less) (λ (last : k ≡ n). λ e. other (ap (basic t) (sym last) ∙ e)) (below_or_last n k h);
      value = next ∙ nothing_is.value;
    }))
    (value_comes t c n))
    (cases_eq (basic t n) c)

module _ (p : Program) (t : Table) (reached : IsReached p t) where
  pub rule_row : (k : ℕ) → k < p.rules → k < length t.rows
  rule_row k h = let size = count p t reached in omega arith

  pub constraints : t.constraints ≡ p.rules
  constraints = reached.keeps.count

  pub has_values : HasValues t
  has_values = record {
    rows = count p t reached ∙ ap (λ n. n + 2) (sym constraints);
    columns = λ k h. reached.keeps.basis.columns k (rule_row k (subst (λ n. k < n) constraints h));
    positive = λ k h. reached.keeps.basis.own k (rule_row k (subst (λ n. k < n) constraints h));
    sides = reached.keeps.sides;
  }

  row_lowest : (k : ℕ) → k < t.constraints → IsLowest (right_side t k) (number t k (basic t k)) (row_value t k)
  unfolding row_value
  row_lowest k h = fractions_are_lowest (right_side t k) (number t k (basic t k)) (has_values.positive k h)

  pub value_positive : (c : ℕ) → pos 0 <ℤ (column_value t c).denominator
  value_positive c = ⊎_elim
      (λ (row : (k : ℕ) × IsOfRow t c t.constraints k). subst (λ (f : Fraction). pos 0 <ℤ f.denominator) (sym row.1.value) (row_lowest row.0 row.1.within).positive)
      (λ (none : IsNothing t c t.constraints). subst (λ (f : Fraction). pos 0 <ℤ f.denominator) (sym none.value) (omega (arith, linear)))
      (value_comes t c t.constraints)

  pub value_coprime : (c m : ℕ) → m ∣ unsigned_abs (column_value t c).numerator → m ∣ unsigned_abs (column_value t c).denominator → m ≡ 1
  value_coprime c m = ⊎_elim
      (λ (row : (k : ℕ) × IsOfRow t c t.constraints k).
      subst (λ (f : Fraction). m ∣ unsigned_abs f.numerator → m ∣ unsigned_abs f.denominator → m ≡ 1) (sym row.1.value) ((row_lowest row.0 row.1.within).coprime m))
      (λ (none : IsNothing t c t.constraints).
      subst (λ (f : Fraction). m ∣ unsigned_abs f.numerator → m ∣ unsigned_abs f.denominator → m ≡ 1) (sym none.value) (λ first second. eq-one_of_dvd-one second))
      (value_comes t c t.constraints)

  -- ---- the least common multiple
  pub denominator_positive : (n : ℕ) → pos 0 <ℤ denominator_to t n
  denominator_positive zero = omega (arith, linear)
  denominator_positive (suc n) = (joined_are_least (denominator_to t n) (column_value t n).denominator (denominator_positive n) (value_positive n)).positive

  pub denominator_divides : (n c : ℕ) → c < n → unsigned_abs (column_value t c).denominator ∣ unsigned_abs (denominator_to t n)
  denominator_divides zero c h = absurd (omega arith)
  denominator_divides (suc n) c h =
      let least = joined_are_least (denominator_to t n) (column_value t n).denominator (denominator_positive n) (value_positive n) in
      ⊎_elim
      (λ (less : c < n). dvd_trans (unsigned_abs (column_value t c).denominator) (denominator_divides n c less) least.first)
      (λ (last : c ≡ n). subst (λ m. unsigned_abs (column_value t m).denominator ∣ unsigned_abs (denominator_to t (suc n))) (sym last) least.second)
      (below_or_last n c h)

  -- ---- its ratio
  module _ (d : ℤ) (share : ℕ → ℤ) (are : AreShares t d share) where
    abbrev v : ℕ → ℤ
    v = basis_values p t d share

    right_place : t.columns - 1 ≡ place p RightSide
    right_place = let size = reached.keeps.columns in omega arith

    row_worth : (k c : ℕ) → k < p.rules → c < place p SumValue → basic t k ≡ c → v c ≡ right_side t k *ℤ share k
    row_worth k c h early same =
        let value = value_basic t reached.keeps.basis (place p RightSide) (neg_ℤ d) (λ l. neg_ℤ (share l)) k (rule_row k h) in
        let none = at_other (place p RightSide) (neg_ℤ d) (basic t k) (λ e. absurd (omega arith)) in
        let turned = mul-neg (number t k (place p RightSide)) (share k) in
        let side : right_side t k ≡ number t k (place p RightSide) = ap (number t k) right_place in
        let product = ap (λ z. z *ℤ share k) side in
        let whole : v (basic t k) ≡ right_side t k *ℤ share k = omega (arith, linear) in
        ap v (sym same) ∙ whole

    pub value_nothing : (c : ℕ) → c < p.unknowns → IsNothing t c t.constraints → v c ≡ pos 0
    value_nothing c h none =
        value_none t reached.keeps.basis (place p RightSide) (neg_ℤ d) (λ l. neg_ℤ (share l)) c
        (λ k m same. absurd (none.none k (subst (λ n. k < n) (sym constraints) (early_rule p t reached k c m (omega arith) same)) same))
        ∙ at_other (place p RightSide) (neg_ℤ d) c (λ e. absurd (omega arith))

    pub value_ratio : (c : ℕ) → c < p.unknowns → v c *ℤ (column_value t c).denominator ≡ (column_value t c).numerator *ℤ d
    value_ratio c h = ⊎_elim
        (λ (row : (k : ℕ) × IsOfRow t c t.constraints k).
        let rule : row.0 < p.rules = subst (λ n. row.0 < n) constraints row.1.within in
        let worth = row_worth row.0 c rule (omega arith) row.1.column in
        let own = row_lowest row.0 row.1.within in
        subst (λ (f : Fraction). v c *ℤ f.denominator ≡ f.numerator *ℤ d) (sym row.1.value)
        (ap (λ z. z *ℤ (row_value t row.0).denominator) worth
        ∙ crossed (right_side t row.0) (share row.0) (row_value t row.0).denominator (row_value t row.0).numerator (number t row.0 (basic t row.0)) own.same
        ∙ ap (λ z. (row_value t row.0).numerator *ℤ z) (are.whole row.0 (rule_row row.0 rule))))
        (λ (none : IsNothing t c t.constraints).
        subst (λ (f : Fraction). v c *ℤ f.denominator ≡ f.numerator *ℤ d) (sym none.value)
        (ap (λ z. z *ℤ pos 1) (value_nothing c h none) ∙ sym (zero-mul d)))
        (value_comes t c t.constraints)
      where
        crossed : (side s low high own : ℤ) → high *ℤ own ≡ side *ℤ low → (side *ℤ s) *ℤ low ≡ high *ℤ (own *ℤ s)
        crossed side s low high own e =
            mul_assoc side s low ∙ ap (λ z. side *ℤ z) (mul_comm s low) ∙ sym (mul_assoc side low s) ∙ ap (λ z. z *ℤ s) (sym e) ∙ mul_assoc high own s
