-- What a run comes to: its rows have the solutions of the start, so the rows of the sum and of the cost are last rows, and the values of its
-- basis solve the start.
-- Cite by `use Rattle.dispatch_program.proofs.LastTables.{bases_give_values}`.
use Rattle.std.proofs.Common.{◌≡◌, ◌≢◌, ℕ, ◌+◌, ◌-◌, ◌<◌, ◌≤◌, ⊎_elim, sym, ap, subst, ◌∙◌, arith, length, ℤ, pos, ◌*ℤ◌, neg_ℤ, ◌≤ℤ◌, ◌<ℤ◌, if◌then◌else◌}
use Rattle.std.proofs.lemmas.Bool.{cases_lt, cases_eq, cond-true, cond_both}
use Rattle.std.proofs.lemmas.Int.{by_lt_z}
use Rattle.uc_model.proofs.Common.{linear, mul_comm, mul_left_comm, mul_nonneg, mul-neg, mul-zero, zero-mul, mul-lt-mul_left, sum_below_nonneg, term-le-sum_below}
use Rattle.pivot_run.specs.Prelude.{row_at, Solves, Table, basic, number, at_column}
use Rattle.pivot_run.proofs.Solutions.{no_factor}
use Rattle.pivot_run.proofs.Values.{values_solve}
use Rattle.dispatch_program.specs.Prelude.{Program, Slack, Artificial, SumValue, CostValue, RightSide, HasColumn, is_limit, has_artificial, place, start_rows, IsLastRow, AreValues, IsReached, NoneEnters, EndsAreLast, HasNoArtificial, NoSumIsLeft, SumsAreLow, NoSumNoArtificial, AreShares, basis_values, BasesGiveValues}
use Rattle.dispatch_program.proofs.Starts.{counted-le, rows_long, sum_basic, cost_basic}
use Rattle.dispatch_program.proofs.Lines.{sum_is}
use Rattle.dispatch_program.proofs.BasicValues.{at_own, at_other, value_none, value_basic, value_low, share_positive, shares_exist}

module _ (p : Program) (t : Table) (is : IsReached p t) where
  pub count : length t.rows ≡ p.rules + 2
  count = is.keeps.rows ∙ rows_long p

  pub sum_column : basic t p.rules ≡ place p SumValue
  sum_column = is.keeps.others p.rules (omega arith) ∙ sum_basic p

  pub cost_column : basic t (p.rules + 1) ≡ place p CostValue
  cost_column = is.keeps.others (p.rules + 1) (omega arith) ∙ cost_basic p

  right_place : t.columns - 1 ≡ place p RightSide
  right_place = let size = is.keeps.columns in omega arith

  sides : (k : ℕ) → k < p.rules → pos 0 ≤ℤ number t k (place p RightSide)
  sides k h = subst (λ c. pos 0 ≤ℤ number t k c) right_place (is.keeps.sides k (subst (λ m. k < m) (sym is.keeps.count) h))

  -- a basic column before the two values is a rule's
  pub early_rule : (k c : ℕ) → k < length t.rows → c < place p SumValue → basic t k ≡ c → k < p.rules
  early_rule k c h l e = ⊎_elim
      (λ (less : k < p.rules). less)
      (λ (most : p.rules ≤ k). ⊎_elim
      (λ (same : k ≡ p.rules). let at : place p SumValue ≡ c = sym sum_column ∙ ap (basic t) (sym same) ∙ e in absurd (omega arith))
      (λ (other : k ≢ p.rules).
      let size = count in
      let last : k ≡ p.rules + 1 = omega arith in
      let at : place p CostValue ≡ c = sym cost_column ∙ ap (basic t) (sym last) ∙ e in absurd (omega arith))
      (cases_eq k p.rules))
      (cases_lt k p.rules)

  -- the right side isn't basic
  pub right_apart : (k : ℕ) → k < length t.rows → basic t k ≢ place p RightSide
  right_apart k h e = ⊎_elim
      (λ (less : k < p.rules). is.apart k less e)
      (λ (most : p.rules ≤ k). ⊎_elim
      (λ (same : k ≡ p.rules). let at : place p SumValue ≡ place p RightSide = sym sum_column ∙ ap (basic t) (sym same) ∙ e in absurd (omega arith))
      (λ (other : k ≢ p.rules).
      let size = count in
      let last : k ≡ p.rules + 1 = omega arith in
      let at : place p CostValue ≡ place p RightSide = sym cost_column ∙ ap (basic t) (sym last) ∙ e in absurd (omega arith))
      (cases_eq k p.rules))
      (cases_lt k p.rules)

  pub artificial_early : (i : ℕ) → HasColumn p (Artificial i) → place p (Artificial i) < place p SumValue
  artificial_early i h = let less = counted-le (has_artificial p) i p.rules h.0 h.1 in omega arith

  -- ---- the last rows
  pub last_row : (o : ℕ) → p.rules ≤ o → o < p.rules + 2 → NoneEnters p t o → IsLastRow p (row_at t.rows o)
  last_row o most h none = record {
    kept = λ v solves. (is.keeps.solutions v).0 solves o (let size = count in omega arith);
    unknown = none.unknown;
    slack = none.slack;
    value = ⊎_elim
        (λ (same : o ≡ p.rules + 1).
        let own = is.keeps.basis.own o (let size = count in omega arith) in
        subst (λ c. pos 0 ≤ℤ number t o c) (ap (basic t) same ∙ cost_column) (omega (arith, linear)))
        (λ (other : o ≢ p.rules + 1).
        let size = count in
        let nothing : number t o (place p CostValue) ≡ pos 0 =
        ap (number t o) (sym cost_column) ∙ is.keeps.basis.others (p.rules + 1) o (omega arith) (omega arith) other in
        omega (arith, linear))
        (cases_eq o (p.rules + 1));
  }

  -- ---- the values of the basis
  module _ (d : ℤ) (share : ℕ → ℤ) (are : AreShares t d share) where
    abbrev side : ℕ → ℤ
    side k = number t k (place p RightSide)

    abbrev values : ℕ → ℤ
    values = basis_values p t d share

    abbrev turned : ℕ → ℤ
    turned k = neg_ℤ (share k)

    worth_is : (k : ℕ) → neg_ℤ (side k *ℤ neg_ℤ (share k)) ≡ side k *ℤ share k
    worth_is k = let opposite = mul-neg (side k) (share k) in omega (arith, linear)

    positive : (k : ℕ) → k < length t.rows → pos 0 <ℤ share k
    positive k h = share_positive t d share is.keeps.basis are k h

    pub solves : Solves (start_rows p) values
    solves = (is.keeps.solutions values).1 (λ l h.
        values_solve t (place p RightSide) (neg_ℤ d) turned l (length t.rows) h (omega arith) h is.keeps.basis
        (λ k m. mul-neg (number t k (basic t k)) (share k) ∙ ap neg_ℤ (are.whole k m)))

    at_right : (c : ℕ) → c < place p SumValue → at_column (place p RightSide) (neg_ℤ d) c ≡ pos 0
    at_right c h = at_other (place p RightSide) (neg_ℤ d) c (λ e. absurd (omega arith))

    pub early_nonneg : (c : ℕ) → c < place p SumValue → pos 0 ≤ℤ values c
    early_nonneg c h =
        let low = value_low t is.keeps.basis (place p RightSide) (neg_ℤ d) turned c (λ k m same.
        subst (λ z. pos 0 ≤ℤ z) (sym (worth_is k))
        (mul_nonneg (side k) (share k) (sides k (early_rule k c m h same)) (let s = positive k m in omega (arith, linear)))) in
        let none = at_right c h in
        omega (arith, linear)

    -- a basic column's value
    basic_value : (k c : ℕ) → k < length t.rows → basic t k ≡ c → c ≢ place p RightSide → values c ≡ side k *ℤ share k
    basic_value k c h same apart =
        ap values (sym same) ∙ value_basic t is.keeps.basis (place p RightSide) (neg_ℤ d) turned k h
        ∙ (let none = at_other (place p RightSide) (neg_ℤ d) (basic t k) (λ e. right_apart k h (sym e)) in
        let same_worth = worth_is k in omega (arith, linear))

    sum_value : values (place p SumValue) ≡ side p.rules *ℤ share p.rules
    sum_value = basic_value p.rules (place p SumValue) (let size = count in omega arith) sum_column (λ e. absurd (omega arith))

    cost_value : values (place p CostValue) ≡ side (p.rules + 1) *ℤ share (p.rules + 1)
    cost_value = basic_value (p.rules + 1) (place p CostValue) (let size = count in omega arith) cost_column (λ e. absurd (omega arith))

    abbrev artificial_at : ℕ → ℤ
    artificial_at i = if has_artificial p i then values (place p (Artificial i)) else pos 0

    each_artificial : (i : ℕ) → i < p.rules → pos 0 ≤ℤ artificial_at i
    each_artificial i h = cond_both (has_artificial p i) (values (place p (Artificial i))) (pos 0) (λ z. pos 0 ≤ℤ z)
        (λ has. early_nonneg (place p (Artificial i)) (artificial_early i (h, has))) (λ e. omega (arith, linear))

    pub sum_low : (side p.rules *ℤ share p.rules) ≤ℤ pos 0
    sum_low =
        let artificial = sum_is p values solves in
        let low = sum_below_nonneg p.rules artificial_at each_artificial in
        let value = sum_value in
        omega (arith, linear)

    module _ (none : NoSumIsLeft p t) where
      artificial_none : (i : ℕ) → HasColumn p (Artificial i) → values (place p (Artificial i)) ≡ pos 0
      artificial_none i h =
          let artificial = sum_is p values solves in
          let value = sum_value in
          let nothing : side p.rules *ℤ share p.rules ≡ pos 0 = ap (λ z. z *ℤ share p.rules) none ∙ zero-mul (share p.rules) in
          let term = term-le-sum_below p.rules artificial_at i h.0 each_artificial in
          let own = cond-true (has_artificial p i) (values (place p (Artificial i))) (pos 0) h.1 in
          let low = early_nonneg (place p (Artificial i)) (artificial_early i h) in
          omega (arith, linear)

      pub no_artificial : HasNoArtificial p t
      no_artificial k i h has same =
          let within : k < length t.rows = let size = count in omega arith in
          let early = artificial_early i has in
          let value = basic_value k (place p (Artificial i)) within same (λ e. absurd (omega arith)) in
          let nothing = artificial_none i has in
          no_factor (share k) (side k) (positive k within) (mul_comm (share k) (side k) ∙ sym value ∙ nothing)

      pub are_values : AreValues p d values
      are_values = record {
        solves = solves;
        denominator = are.denominator;
        right = value_none t is.keeps.basis (place p RightSide) (neg_ℤ d) turned (place p RightSide) (λ k l same. absurd (right_apart k l same))
            ∙ at_own (place p RightSide) (neg_ℤ d);
        unknown = λ c h. early_nonneg c (omega arith);
        slack = λ i h limit. early_nonneg (place p (Slack i)) (let less = counted-le (is_limit p) i p.rules h limit in omega arith);
        artificial = λ i h has. artificial_none i (h, has);
      }

      pub balance : d *ℤ side (p.rules + 1) ≡ number t (p.rules + 1) (place p CostValue) *ℤ values (place p CostValue)
      balance =
          let own = number t (p.rules + 1) (place p CostValue) in
          let whole : own *ℤ share (p.rules + 1) ≡ d =
          ap (λ c. number t (p.rules + 1) c *ℤ share (p.rules + 1)) (sym cost_column) ∙ are.whole (p.rules + 1) (let size = count in omega arith) in
          mul_comm d (side (p.rules + 1)) ∙ ap (λ z. side (p.rules + 1) *ℤ z) (sym whole)
          ∙ mul_left_comm (side (p.rules + 1)) own (share (p.rules + 1)) ∙ ap (λ z. own *ℤ z) (sym cost_value)

pub ends_are_last : EndsAreLast
ends_are_last p t o is most h none = last_row p t is o most h none

pub sums_are_low : SumsAreLow
sums_are_low p t is =
    let found = shares_exist t is.keeps.basis in
    let size = count p t is in
    not_above (number t p.rules (place p RightSide)) (found.1 p.rules) (share_positive t found.0 found.1 is.keeps.basis found.2 p.rules (omega arith)) (sum_low p t is found.0 found.1 found.2)
  where
    not_above : (a s : ℤ) → pos 0 <ℤ s → (a *ℤ s) ≤ℤ pos 0 → a ≤ℤ pos 0
    not_above a s h l = by_lt_z (pos 0) a
        (λ more. let product = mul-lt-mul_left s (pos 0) a h more in let none = mul-zero s in let order = mul_comm s a in absurd (omega (arith, linear)))
        (λ most. most)

pub no_sum_no_artificial : NoSumNoArtificial
no_sum_no_artificial p t is none =
    let found = shares_exist t is.keeps.basis in
    no_artificial p t is found.0 found.1 found.2 none

pub bases_give_values : BasesGiveValues
bases_give_values p t d share is none are = (are_values p t is d share are none, balance p t is d share are none)
