-- A pivot keeps the columns of the basis: above 0 in their own row, and 0 in all others.
-- Cite by `use Rattle.pivot_run.proofs.Basis.{basis_kept}`.
use Rattle.std.proofs.Common.{◌≡◌, ◌≢◌, ℕ, ◌<◌, ⊎_elim, sym, ap, subst, ◌∙◌, arith, List, length, ℤ, pos, ◌*ℤ◌, ◌<ℤ◌, int_lt}
use Rattle.std.proofs.lemmas.Bool.{cases_eq}
use Rattle.std.proofs.lemmas.List.{get_or-map, get_or-set_same, get_or-set_other}
use Rattle.pivot_run.specs.Prelude.{entry, reduced, upright, cleared, divisor_of, pivot_row, row_at, IsTable, IsBasic, Table, basic, number, pivoted_table}
use Rattle.uc_model.proofs.Common.{linear, mul-zero, zero-mul, mul-lt-mul_left}
use Rattle.pivot_run.proofs.Clearing.{entry-combined, length-combined}
use Rattle.pivot_run.proofs.Solutions.{by_eliminated, no_factor, positive_divisor, length-upright, length-pivoted, row-pivoted_at, row-pivoted_other, upright_positive}
use Rattle.pivot_run.proofs.RightSides.{entry-reduced}

-- a positive factor keeps the sign
positive_over : (q a : ℤ) → pos 0 <ℤ q → pos 0 <ℤ (q *ℤ a) → pos 0 <ℤ a
positive_over q a positive h = grind (arith, linear, positive, h)

reduced_positive : (row : List ℤ) (c : ℕ) → c < length row → pos 0 <ℤ entry row c → pos 0 <ℤ entry (reduced row) c
reduced_positive row c within h =
    positive_over (pos (divisor_of row)) (entry (reduced row) c) (positive_divisor row) (subst (λ x. pos 0 <ℤ x) (sym (entry-reduced row c within)) h)

reduced_zero : (row : List ℤ) (c : ℕ) → c < length row → entry row c ≡ pos 0 → entry (reduced row) c ≡ pos 0
reduced_zero row c within h = no_factor (pos (divisor_of row)) (entry (reduced row) c) (positive_divisor row) (entry-reduced row c within ∙ h)

pub upright_zero : (j : ℕ) (row : List ℤ) (c : ℕ) → c < length row → entry row c ≡ pos 0 → entry (upright j row) c ≡ pos 0
upright_zero j row c within h = grind (arith, linear, int_lt, get_or-map, within, h)

-- a row cleared by a pivot row that is 0 in the column
pub cleared_at : (pivot : List ℤ) (j : ℕ) (row : List ℤ) (c : ℕ) → length row ≡ length pivot → entry pivot c ≡ pos 0
    → entry (cleared pivot j row) c ≡ entry row c *ℤ entry pivot j
cleared_at pivot j row c same none = grind (arith, linear, entry-combined, mul-zero, same, none)

-- in its own column it is 0
cleared_there : (pivot : List ℤ) (j : ℕ) (row : List ℤ) → length row ≡ length pivot → entry (cleared pivot j row) j ≡ pos 0
cleared_there pivot j row same = grind (arith, linear, entry-combined, same)

-- ---- the numbers of a pivot
pub record IsPivot (t : Table) (i j : ℕ) : Type 0 where
  pub table : IsTable t
  pub basis : IsBasic t
  pub row : i < length t.rows
  pub column : j < t.columns
  pub apart : number t i j ≢ pos 0

pub inside : (t : Table) (i j : ℕ) → IsPivot t i j → i < length t.rows
inside t i j is = is.row

pub long : (t : Table) (i j : ℕ) → IsPivot t i j → length (pivot_row t.rows i j) ≡ t.columns
long t i j is = length-upright j (row_at t.rows i) ∙ is.table.lengths i (inside t i j is)

pub equal : (t : Table) (i j l : ℕ) → IsPivot t i j → l < length t.rows → length (row_at t.rows l) ≡ length (pivot_row t.rows i j)
equal t i j l is h = is.table.lengths l h ∙ sym (long t i j is)

pub size : (t : Table) (i j l : ℕ) → IsPivot t i j → l < length t.rows → length (cleared (pivot_row t.rows i j) j (row_at t.rows l)) ≡ t.columns
size t i j l is h = length-combined (entry (pivot_row t.rows i j) j) (entry (row_at t.rows l) j) (row_at t.rows l) (pivot_row t.rows i j) ∙ is.table.lengths l h

pub positive : (t : Table) (i j : ℕ) → IsPivot t i j → pos 0 <ℤ entry (pivot_row t.rows i j) j
positive t i j is = upright_positive j (row_at t.rows i) (subst (λ m. j < m) (sym (is.table.lengths i (inside t i j is))) is.column) is.apart

-- the column that enters
enters_own : (t : Table) (i j : ℕ) → IsPivot t i j → pos 0 <ℤ number (pivoted_table t i j) i j
enters_own t i j is = grind (arith, linear, row-pivoted_at, inside, reduced_positive, long, positive, is)

enters_others : (t : Table) (i j l : ℕ) → IsPivot t i j → l < length t.rows → l ≢ i → number (pivoted_table t i j) l j ≡ pos 0
enters_others t i j l is h other = grind (arith, linear, row-pivoted_other, by_eliminated, reduced_zero, size, cleared_there, equal, is, h, other)

-- a column c of another row k of the basis
none_there : (t : Table) (i j k : ℕ) → IsPivot t i j → k < length t.rows → k ≢ i → entry (pivot_row t.rows i j) (basic t k) ≡ pos 0
none_there t i j k is h other = grind (arith, linear, inside, upright_zero, is, h, other)

stays_own : (t : Table) (i j k : ℕ) → IsPivot t i j → k < length t.rows → k ≢ i → pos 0 <ℤ number (pivoted_table t i j) k (basic t k)
stays_own t i j k is h other =
    let within = h in
    let value = cleared_at (pivot_row t.rows i j) j (row_at t.rows k) (basic t k) (equal t i j k is within) (none_there t i j k is h other) in
    let own = is.basis.own k h in
    let none = mul-zero (number t k (basic t k)) in
    let more = mul-lt-mul_left (number t k (basic t k)) (pos 0) (entry (pivot_row t.rows i j) j) own (positive t i j is) in
    subst (λ r. pos 0 <ℤ entry r (basic t k)) (sym (row-pivoted_other t.rows i j k within other))
    (by_eliminated (pivot_row t.rows i j) j (row_at t.rows k) (λ r. pos 0 <ℤ entry r (basic t k)) (λ none. own)
    (reduced_positive _ (basic t k) (subst (λ m. basic t k < m) (sym (size t i j k is within)) (is.basis.columns k h)) (omega (arith, linear))))

stays_others : (t : Table) (i j k l : ℕ) → IsPivot t i j → k < length t.rows → k ≢ i → l < length t.rows → l ≢ k → number (pivoted_table t i j) l (basic t k) ≡ pos 0
stays_others t i j k l is h other within apart =
    let c = basic t k in
    let none = none_there t i j k is h other in
    ⊎_elim
    (λ (here : l ≡ i).
    ap (λ m. number (pivoted_table t i j) m c) here ∙ ap (λ r. entry r c) (row-pivoted_at t.rows i j (inside t i j is))
    ∙ reduced_zero (pivot_row t.rows i j) c (subst (λ m. c < m) (sym (long t i j is)) (is.basis.columns k h)) none)
    (λ (there : l ≢ i).
    ap (λ r. entry r c) (row-pivoted_other t.rows i j l within there)
    ∙ by_eliminated (pivot_row t.rows i j) j (row_at t.rows l) (λ r. entry r c ≡ pos 0) (λ stays. is.basis.others k l h within apart)
    (reduced_zero _ c (subst (λ m. c < m) (sym (size t i j l is within)) (is.basis.columns k h))
    (cleared_at (pivot_row t.rows i j) j (row_at t.rows l) c (equal t i j l is within) none
    ∙ ap (λ x. x *ℤ entry (pivot_row t.rows i j) j) (is.basis.others k l h within apart) ∙ zero-mul (entry (pivot_row t.rows i j) j))))
    (cases_eq l i)

-- ---- the basis of a pivot
basic_at : (t : Table) (i j : ℕ) → IsPivot t i j → basic (pivoted_table t i j) i ≡ j
basic_at t i j is = get_or-set_same t.basis i j 0 (subst (λ m. i < m) (sym is.table.each) is.row)

pub basic_other : (t : Table) (i j k : ℕ) → k ≢ i → basic (pivoted_table t i j) k ≡ basic t k
basic_other t i j k other = get_or-set_other t.basis i k j 0 other

kept : (t : Table) (i j : ℕ) → IsPivot t i j → IsBasic (pivoted_table t i j)
kept t i j is = grind (arith, linear, basic_at, basic_other, length-pivoted, cases_eq, enters_own, stays_own, enters_others, stays_others, is)

pub basis_kept : (t : Table) (i j : ℕ) → IsTable t → IsBasic t → i < length t.rows → j < t.columns → number t i j ≢ pos 0 → IsBasic (pivoted_table t i j)
basis_kept t i j table basis row column apart = kept t i j (record { table = table; basis = basis; row = row; column = column; apart = apart })
