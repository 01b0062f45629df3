-- The start is a table with a basis: each own column is 1 in its row, and 0 in the others.
-- Cite by `use Rattle.dispatch_program.proofs.StartTables.{starts_are_tables}`.
use Rattle.std.proofs.Common.{◌≡◌, ◌≢◌, ℕ, ◌+◌, ◌-◌, ◌<◌, ◌≤◌, ⊎_elim, true, false, refl, sym, ap, subst, ◌∙◌, arith, length, ℤ, pos, ◌*ℤ◌, neg_ℤ, ◌≤ℤ◌, ◌<ℤ◌, int_lt, if◌then◌else◌}
use Rattle.std.proofs.lemmas.Bool.{cases_lt, cases_eq, cases_Bool, cond_both, cond-true, cond-false}
use Rattle.uc_model.proofs.Common.{linear, one-mul, neg-mul}
use Rattle.pivot_run.specs.Prelude.{IsBasic, basic, number}
use Rattle.pivot_run.proofs.Orders.{int_lt-true, int_lt-false}
use Rattle.dispatch_program.specs.Prelude.{Program, Column, Slack, Artificial, SumValue, CostValue, RightSide, HasColumn, is_limit, has_artificial, rule_number, sum_number, cost_number, start_rows, place, own_column, start_table, IsStart, StartsAreTables}
use Rattle.dispatch_program.proofs.Combined.{one_at-same, one_at-other, own_there, own_in_rule, own_in_sum, own_in_cost}
use Rattle.dispatch_program.proofs.Starts.{start_is, rows_long, row_long, basis_long, counted-le, rule_basic, sum_basic, cost_basic, place-lt, columns_long}

module _ (p : Program) where
  -- a row is a rule's, the sum's or the cost's
  by_line : (P : ℕ → Type 0) (k : ℕ) → k < length (start_rows p) → ((i : ℕ) → i < p.rules → P i) → P p.rules → P (p.rules + 1) → P k
  by_line P k h rule sum cost = ⊎_elim
      (λ (less : k < p.rules). rule k less)
      (λ (most : p.rules ≤ k). ⊎_elim
      (λ (same : k ≡ p.rules). subst P (sym same) sum)
      (λ (other : k ≢ p.rules). let long = rows_long p in let last : k ≡ p.rules + 1 = omega arith in subst P (sym last) cost)
      (cases_eq k p.rules))
      (cases_lt k p.rules)

  -- a column that is 0 in every line but one
  zero_but : (column : Column) (k : ℕ) → HasColumn p column → ((i : ℕ) → i < p.rules → i ≢ k → rule_number p i column ≡ pos 0)
      → (p.rules ≢ k → sum_number p column ≡ pos 0) → (p.rules + 1 ≢ k → cost_number p column ≡ pos 0)
      → (l : ℕ) → l < length (start_rows p) → l ≢ k → number (start_table p) l (place p column) ≡ pos 0
  zero_but column k there rule sum cost l h =
      by_line (λ m. m ≢ k → number (start_table p) m (place p column) ≡ pos 0) l h
      (λ i less other. (start_is p).rule i column less there ∙ rule i less other)
      (λ other. (start_is p).sum column there ∙ sum other)
      (λ other. (start_is p).cost column there ∙ cost other)

  -- ---- the basic column of each row
  by_basic : (P : ℕ → ℕ → Type 0) (k : ℕ) → k < length (start_rows p) → ((i : ℕ) → i < p.rules → P i (place p (own_column p i)))
      → P p.rules (place p SumValue) → P (p.rules + 1) (place p CostValue) → P k (basic (start_table p) k)
  by_basic P k h rule sum cost =
      by_line (λ m. P m (basic (start_table p) m)) k h
      (λ i less. subst (P i) (sym (rule_basic p i less)) (rule i less))
      (subst (P p.rules) (sym (sum_basic p)) sum)
      (subst (P (p.rules + 1)) (sym (cost_basic p)) cost)

  own_is : (i : ℕ) → i < p.rules → number (start_table p) i (place p (own_column p i)) ≡ pos 1
  own_is i h = (start_is p).rule i (own_column p i) h (own_there p i h) ∙ own_in_rule p i i ∙ one_at-same i i (pos 1) refl

  above : (x : ℤ) → x ≡ pos 1 → pos 0 <ℤ x
  above x e = omega (arith, linear)

  within : (column : Column) → HasColumn p column → place p column < place p RightSide + 1
  within column there = let less = place-lt p column there in let long = columns_long p in omega arith

  basis : IsBasic (start_table p)
  basis = record {
    columns = λ k h. by_basic (λ m c. c < place p RightSide + 1) k h (λ i less. within (own_column p i) (own_there p i less)) (within SumValue tt) (within CostValue tt);
    own = λ k h. by_basic (λ m c. pos 0 <ℤ number (start_table p) m c) k h (λ i less. above _ (own_is i less))
        (above _ ((start_is p).sum SumValue tt)) (above _ ((start_is p).cost CostValue tt));
    others = λ k l h m. by_basic (λ r c. l ≢ r → number (start_table p) l c ≡ pos 0) k h
        (λ i less. zero_but (own_column p i) i (own_there p i less) (λ r within other. own_in_rule p r i ∙ one_at-other r i (pos 1) other) (λ other. own_in_sum p i) (λ other. own_in_cost p i) l m)
        (zero_but SumValue p.rules tt (λ r within other. refl) (λ other. absurd (other refl)) (λ other. refl) l m)
        (zero_but CostValue (p.rules + 1) tt (λ r within other. refl) (λ other. refl) (λ other. absurd (other refl)) l m);
  }

  -- ---- right sides
  upright_nonneg : (x : ℤ) → pos 0 ≤ℤ ((if int_lt x (pos 0) then neg_ℤ (pos 1) else pos 1) *ℤ x)
  upright_nonneg x = cond_both (int_lt x (pos 0)) (neg_ℤ (pos 1)) (pos 1) (λ s. pos 0 ≤ℤ (s *ℤ x))
      (λ below. let less = int_lt-true x (pos 0) below in let a = neg-mul (pos 1) x in let b = one-mul x in omega (arith, linear))
      (λ above. let most = int_lt-false x (pos 0) above in let b = one-mul x in omega (arith, linear))

  pub start_is_table : IsStart (start_table p)
  start_is_table = record {
    table = record {
      lengths = λ k h. row_long p k (subst (λ m. k < m) (rows_long p) h);
      wide = omega arith;
      few = let long = rows_long p in omega arith;
      each = basis_long p ∙ sym (rows_long p);
    };
    basis = basis;
    sides = λ k h.
        subst (λ c. pos 0 ≤ℤ number (start_table p) k c) (right_last (place p RightSide))
        (subst (λ x. pos 0 ≤ℤ x) (sym ((start_is p).rule k RightSide h tt)) (upright_nonneg (p.right k)));
  }
    where
      right_last : (n : ℕ) → n ≡ n + 1 - 1
      right_last n = omega arith

-- the right side isn't basic
pub rule_column : (p : Program) (i : ℕ) → i < p.rules → basic (start_table p) i ≢ place p RightSide
rule_column p i h e = ⊎_elim
    (λ (there : has_artificial p i ≡ true).
    let at = counted-le (has_artificial p) i p.rules h there in
    let own : place p (Artificial i) ≡ place p RightSide = ap (place p) (sym (cond-true (has_artificial p i) (Artificial i) (Slack i) there)) ∙ sym (rule_basic p i h) ∙ e in
    absurd (omega arith))
    (λ (none : has_artificial p i ≡ false).
    let at = own_there p i h in
    let own : place p (Slack i) ≡ place p RightSide = ap (place p) (sym (cond-false (has_artificial p i) (Artificial i) (Slack i) none)) ∙ sym (rule_basic p i h) ∙ e in
    let there = subst (HasColumn p) (cond-false (has_artificial p i) (Artificial i) (Slack i) none) at in
    let less = counted-le (is_limit p) i p.rules h there.1 in
    absurd (omega arith))
    (cases_Bool (has_artificial p i))

pub starts_are_tables : StartsAreTables
starts_are_tables p = start_is_table p
