-- One pivot of a program's run reaches a table, and keeps that no sum is left and which rows are done.
-- Cite by `use Rattle.dispatch_program.proofs.RunningTables.{entered, drove}`.
use Rattle.std.proofs.Common.{◌≡◌, ◌≢◌, ⊎_elim, inl, inr, ℕ, ◌+◌, ◌-◌, ◌<◌, ◌≤◌, Some, sym, ap, subst, ◌∙◌, arith, length, pos, ◌≤ℤ◌}
use Rattle.std.specs.Ordering.{int_eq}
use Rattle.std.proofs.lemmas.Bool.{cases_eq, cases_lt, cond-true}
use Rattle.std.proofs.lemmas.List.{get_or-set_same}
use Rattle.uc_model.proofs.Common.{linear}
use Rattle.pivot_run.specs.Prelude.{entry, reduced, cleared, pivot_row, row_at, Table, basic, leaving, number, pivoted_table, right_side}
use Rattle.pivot_run.proofs.Solutions.{length-pivoted, row-pivoted_other, pivoted_solves, pivoted_solved}
use Rattle.pivot_run.proofs.Basis.{basic_other, basis_kept}
use Rattle.pivot_run.proofs.PivotKeeps.{pivot_keeps, table_kept}
use Rattle.pivot_run.proofs.ZeroSides.{zero_sides_kept}
use Rattle.dispatch_program.specs.Prelude.{Program, Artificial, SumValue, CostValue, RightSide, HasColumn, has_artificial, place, start_table, free_columns, IsReached, NoSumIsLeft, HasZeros}
use Rattle.dispatch_program.proofs.Starts.{counted_has}
use Rattle.dispatch_program.proofs.BasicValues.{two_columns, shares_exist}
use Rattle.dispatch_program.proofs.LastTables.{count, sum_column, cost_column, sums_are_low}
use Rattle.dispatch_program.proofs.Entering.{sum_is_zero}
use Rattle.dispatch_program.proofs.Targets.{IsDone}

-- ---- rows that stay
row_stays : (t : Table) (i j r : ℕ) → r < length t.rows → r ≢ i → number t r j ≡ pos 0 → row_at (pivoted_table t i j).rows r ≡ row_at t.rows r
row_stays t i j r h other none =
    row-pivoted_other t.rows i j r h other
    ∙ cond-true (int_eq (number t r j) (pos 0)) (row_at t.rows r) (reduced (cleared (pivot_row t.rows i j) j (row_at t.rows r))) (ap (λ x. int_eq x (pos 0)) none)

module _ (p : Program) (t : Table) (is : IsReached p t) where
  right_place : t.columns - 1 ≡ place p RightSide
  right_place = let size = is.keeps.columns in omega arith

  -- ---- which columns are artificial
  pub artificial_column : (i : ℕ) → i < p.rules → free_columns p ≤ basic t i → (a : ℕ) × HasColumn p (Artificial a) × (basic t i ≡ place p (Artificial a))
  artificial_column i h free =
      let size = count p t is in
      let within : i < length t.rows = omega arith in
      let below = is.keeps.basis.columns i within in
      let wide = is.keeps.columns in
      let right = is.apart i h in
      let sum : basic t i ≢ place p SumValue = λ e. two_columns t is.keeps.basis 0 (pos 0) (λ k. pos 0) i p.rules within (omega arith) (λ e'. absurd (omega arith)) (e ∙ sym (sum_column p t is)) in
      let cost : basic t i ≢ place p CostValue = λ e. two_columns t is.keeps.basis 0 (pos 0) (λ k. pos 0) i (p.rules + 1) within (omega arith) (λ e'. absurd (omega arith)) (e ∙ sym (cost_column p t is)) in
      let found = counted_has (has_artificial p) p.rules (basic t i - free_columns p) (omega arith) in
      (found.0, (found.1, found.2), omega (arith, found.3))

  module _ (i j : ℕ) (row : i < p.rules) (free : j < free_columns p) where
    in_rows : i < length t.rows
    in_rows = let size = count p t is in omega arith

    in_columns : j < t.columns
    in_columns = let wide = is.keeps.columns in omega arith

    own_column : basic (pivoted_table t i j) i ≡ j
    own_column = get_or-set_same t.basis i j 0 (subst (λ m. i < m) (sym is.keeps.table.each) in_rows)

    apart_kept : (k : ℕ) → k < p.rules → basic (pivoted_table t i j) k ≢ place p RightSide
    apart_kept k h e = ⊎_elim
        (λ (here : k ≡ i). let at : j ≡ place p RightSide = sym own_column ∙ ap (basic (pivoted_table t i j)) (sym here) ∙ e in absurd (omega arith))
        (λ (other : k ≢ i). is.apart k h (sym (basic_other t i j k other) ∙ e))
        (cases_eq k i)

    -- rows that are done
    pub done_kept : (r : ℕ) → r < p.rules → (r ≢ i → IsDone (free_columns p) t r) → IsDone (free_columns p) (pivoted_table t i j) r
    done_kept r h done = ⊎_elim
        (λ (here : r ≡ i). inl (subst (λ c. c < free_columns p) (sym (ap (basic (pivoted_table t i j)) here ∙ own_column)) free))
        (λ (other : r ≢ i). ⊎_elim
        (λ (plain : basic t r < free_columns p). inl (subst (λ c. c < free_columns p) (sym (basic_other t i j r other)) plain))
        (λ (zeros : (c : ℕ) → c < free_columns p → number t r c ≡ pos 0).
        let size = count p t is in
        inr (λ c l. ap (λ x. entry x c) (row_stays t i j r (omega arith) other (zeros j free)) ∙ zeros c l))
        (done other))
        (cases_eq r i)

    -- ---- a pivot by the ratio test
    pub entered : leaving t j t.constraints ≡ Some i → IsReached p (pivoted_table t i j)
    entered found = record { keeps = pivot_keeps (start_table p) t i j is.keeps in_columns found; apart = apart_kept }

    pub sum_stays : NoSumIsLeft p t → HasZeros p t j → NoSumIsLeft p (pivoted_table t i j)
    sum_stays none zeros =
        let size = count p t is in
        let shares = shares_exist t is.keeps.basis in
        let nothing = sum_is_zero p t is j (omega arith) shares.0 shares.1 shares.2 free zeros in
        ap (λ x. entry x (place p RightSide)) (row_stays t i j p.rules (omega arith) (λ e. absurd (omega arith)) nothing) ∙ none

    -- ---- a pivot on a row with the right side 0, where no sum is left
    module _ (apart : number t i j ≢ pos 0) (zero_side : number t i (place p RightSide) ≡ pos 0) (none : NoSumIsLeft p t) where
      -- the row of the sum beside the rules
      abbrev with_sum : Table
      with_sum = record { columns = t.columns; rows = t.rows; constraints = p.rules + 1; basis = t.basis }

      sides_with_sum : (k : ℕ) → k < p.rules + 1 → pos 0 ≤ℤ right_side with_sum k
      sides_with_sum k h = ⊎_elim
          (λ (less : k < p.rules). is.keeps.sides k (subst (λ m. k < m) (sym is.keeps.count) less))
          (λ (most : p.rules ≤ k).
          let at : k ≡ p.rules = omega arith in
          let here : number t p.rules (t.columns - 1) ≡ pos 0 = ap (number t p.rules) right_place ∙ none in
          subst (λ m. pos 0 ≤ℤ right_side with_sum m) (sym at) (omega (arith, linear)))
          (cases_lt k p.rules)

      sides_kept : (k : ℕ) → k < p.rules + 1 → pos 0 ≤ℤ right_side (pivoted_table t i j) k
      sides_kept k h =
          zero_sides_kept with_sum i j
          (record { lengths = is.keeps.table.lengths; wide = is.keeps.table.wide; few = let size = count p t is in omega arith; each = is.keeps.table.each })
          (record { columns = is.keeps.basis.columns; own = is.keeps.basis.own; others = is.keeps.basis.others })
          (omega arith) in_columns apart (ap (number t i) right_place ∙ zero_side) sides_with_sum k h

      pub drove : IsReached p (pivoted_table t i j)
      drove = record {
        keeps = record {
          table = table_kept t i j is.keeps.table in_rows;
          basis = basis_kept t i j is.keeps.table is.keeps.basis in_rows in_columns apart;
          columns = is.keeps.columns;
          rows = length-pivoted t.rows i j ∙ is.keeps.rows;
          count = is.keeps.count;
          others = λ k h. basic_other t i j k (λ e. absurd (omega arith)) ∙ is.keeps.others k h;
          sides = λ k h. sides_kept k (let same = is.keeps.count in omega arith);
          solutions = λ v. (
            λ h. pivoted_solves t.rows t.columns i j v is.keeps.table.lengths in_rows ((is.keeps.solutions v).0 h),
            λ h. (is.keeps.solutions v).1 (pivoted_solved t.rows t.columns i j v is.keeps.table.lengths in_rows in_columns apart h),
          );
        };
        apart = apart_kept;
      }

      pub sum_stays_zero : NoSumIsLeft p (pivoted_table t i j)
      sum_stays_zero =
          let low = sums_are_low p (pivoted_table t i j) drove in
          let high = subst (λ c. pos 0 ≤ℤ number (pivoted_table t i j) p.rules c) right_place (sides_kept p.rules (omega arith)) in
          omega (arith, linear)
