-- A pivot on a row whose right side is 0 keeps the right sides at 0 or above.
-- Cite by `use Rattle.pivot_run.proofs.ZeroSides.{zero_sides_kept}`.
use Rattle.std.proofs.Common.{◌≡◌, ◌≢◌, ℕ, ◌-◌, ◌<◌, ⊎_elim, sym, subst, arith, length, pos, ◌≤ℤ◌, ◌<ℤ◌}
use Rattle.std.proofs.lemmas.Bool.{cases_eq}
use Rattle.pivot_run.specs.Prelude.{entry, cleared, pivot_row, row_at, IsBasic, IsTable, Table, number, pivoted_table, right_side}
use Rattle.uc_model.proofs.Common.{linear, le_refl, mul_nonneg}
use Rattle.pivot_run.proofs.Solutions.{by_eliminated, row-pivoted_at, row-pivoted_other}
use Rattle.pivot_run.proofs.RightSides.{reduced_nonneg}
use Rattle.pivot_run.proofs.Basis.{IsPivot, cleared_at, equal, inside, long, positive, size, upright_zero}

pub zero_sides_kept : (t : Table) (i j : ℕ) → IsTable t → IsBasic t → i < t.constraints → j < t.columns → number t i j ≢ pos 0 → right_side t i ≡ pos 0
    → ((k : ℕ) → k < t.constraints → pos 0 ≤ℤ right_side t k) → (k : ℕ) → k < t.constraints → pos 0 ≤ℤ right_side (pivoted_table t i j) k
zero_sides_kept t i j table basis row column apart none sides k within =
    let is : IsPivot t i j = record { table = table; basis = basis; row = omega (arith, row, table.few); column = column; apart = apart } in
    let last = t.columns - 1 in
    let wide = table.wide in
    let end : last < t.columns = omega arith in
    let at_row = inside t i j is in
    let there : k < length t.rows = omega (arith, within, table.few) in
    let above : pos 0 <ℤ entry (pivot_row t.rows i j) j = positive t i j is in
    let zero : entry (pivot_row t.rows i j) last ≡ pos 0 = upright_zero j (row_at t.rows i) last (subst (λ m. last < m) (sym (table.lengths i at_row)) end) none in
    ⊎_elim
    (λ (same : k ≡ i). subst (λ m. pos 0 ≤ℤ right_side (pivoted_table t i j) m) (sym same)
    (subst (λ r. pos 0 ≤ℤ entry r last) (sym (row-pivoted_at t.rows i j at_row))
    (reduced_nonneg (pivot_row t.rows i j) last (subst (λ m. last < m) (sym (long t i j is)) end) (subst (λ x. pos 0 ≤ℤ x) (sym zero) (le_refl (pos 0))))))
    (λ (other : k ≢ i).
    subst (λ r. pos 0 ≤ℤ entry r last) (sym (row-pivoted_other t.rows i j k there other))
    (by_eliminated (pivot_row t.rows i j) j (row_at t.rows k) (λ r. pos 0 ≤ℤ entry r last) (λ none. sides k within)
    (reduced_nonneg (cleared (pivot_row t.rows i j) j (row_at t.rows k)) last (subst (λ m. last < m) (sym (size t i j k is there)) end)
    (subst (λ x. pos 0 ≤ℤ x) (sym (cleared_at (pivot_row t.rows i j) j (row_at t.rows k) last (equal t i j k is there) zero))
    (mul_nonneg (right_side t k) (entry (pivot_row t.rows i j) j) (sides k within) (omega (arith, linear)))))))
    (cases_eq k i)
