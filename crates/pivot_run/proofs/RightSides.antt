-- A pivot on the row that leaves keeps the right sides at 0 or above.
-- Cite by `use Rattle.pivot_run.proofs.RightSides.{right_sides_kept}`.
use Rattle.std.proofs.Common.{◌≡◌, ◌≢◌, ℕ, ◌-◌, ◌<◌, ⊎_elim, Option, Some, sym, subst, ◌∙◌, arith, List, length, map, ℤ, pos, ◌-ℤ◌, ◌*ℤ◌, ◌≤ℤ◌, ◌<ℤ◌, int_lt, int_div, neg_ℤ}
use Rattle.std.proofs.lemmas.Bool.{cases_eq, cond-false}
use Rattle.std.proofs.lemmas.List.{get_or-map}
use Rattle.pivot_run.specs.Prelude.{entry, reduced, upright, cleared, divisor_of, pivot_row, row_at, IsTable, Table, number, right_side, leaving, pivoted_table}
use Rattle.uc_model.proofs.Common.{linear, mul-zero, le_from_mul}
use Rattle.pivot_run.proofs.Orders.{lt-int_lt_false}
use Rattle.pivot_run.proofs.Clearing.{entry-combined, length-combined}
use Rattle.pivot_run.proofs.Divisors.{divisor_of-positive, divisor_of-divides}
use Rattle.pivot_run.proofs.Solutions.{exact, positive_divisor, by_eliminated, length-upright, row-pivoted_at, row-pivoted_other}
use Rattle.pivot_run.proofs.Ratios.{IsLeast, IsLeaving, leaving_is}

pub entry-reduced : (row : List ℤ) (c : ℕ) → c < length row → pos (divisor_of row) *ℤ entry (reduced row) c ≡ entry row c
entry-reduced row c within = grind (arith, linear, get_or-map, int_div, exact, divisor_of-positive, divisor_of-divides, within)

pub reduced_nonneg : (row : List ℤ) (c : ℕ) → c < length row → pos 0 ≤ℤ entry row c → pos 0 ≤ℤ entry (reduced row) c
reduced_nonneg row c within h =
    let same = entry-reduced row c within in
    let none = mul-zero (pos (divisor_of row)) in
    le_from_mul (pos (divisor_of row)) (pos 0) (entry (reduced row) c) (positive_divisor row) (omega (arith, linear))

-- a right side with the ratio test: b p - e a, where a/p is at most b/e, or e isn't above 0
side_nonneg : (a p b e : ℤ) → pos 0 <ℤ p → pos 0 ≤ℤ a → pos 0 ≤ℤ b → (pos 0 <ℤ e → (a *ℤ e) ≤ℤ (b *ℤ p)) → pos 0 ≤ℤ (b *ℤ p -ℤ e *ℤ a)
side_nonneg a p b e positive first second least = grind (arith, linear, positive, first, second, least)

pub upright_same : (j : ℕ) (row : List ℤ) → pos 0 ≤ℤ entry row j → upright j row ≡ row
upright_same j row h = cond-false (int_lt (entry row j) (pos 0)) (map neg_ℤ row) row (lt-int_lt_false (entry row j) (pos 0) h)

at_least : (t : Table) (j n i : ℕ) (found : Option ℕ) → found ≡ Some i → IsLeaving t j n found → IsLeast t j n i
at_least t j n i found e is = subst (λ o. IsLeaving t j n o) e is

pub right_sides_kept : (t : Table) (i j : ℕ) → IsTable t → j < t.columns → leaving t j t.constraints ≡ Some i
    → ((k : ℕ) → k < t.constraints → pos 0 ≤ℤ right_side t k)
    → (k : ℕ) → k < t.constraints → pos 0 ≤ℤ right_side (pivoted_table t i j) k
right_sides_kept t i j is column found sides k within =
    let least = at_least t j t.constraints i (leaving t j t.constraints) found (leaving_is t j t.constraints) in
    let row : i < length t.rows = omega (arith, least.within, is.few) in
    let inside : k < length t.rows = omega (arith, within, is.few) in
    let pivot = pivot_row t.rows i j in
    let same : pivot ≡ row_at t.rows i = upright_same j (row_at t.rows i) (omega (arith, linear, least.positive)) in
    let long : length pivot ≡ t.columns = length-upright j (row_at t.rows i) ∙ is.lengths i row in
    let last = t.columns - 1 in
    let wide = is.wide in
    let end : last < t.columns = omega arith in
    ⊎_elim
    (λ (here : k ≡ i). subst (λ m. pos 0 ≤ℤ right_side (pivoted_table t i j) m) (sym here)
    (subst (λ r. pos 0 ≤ℤ entry r last) (sym (row-pivoted_at t.rows i j row))
    (reduced_nonneg pivot last (subst (λ m. last < m) (sym long) end)
    (subst (λ r. pos 0 ≤ℤ entry r last) (sym same) (sides i least.within)))))
    (λ (other : k ≢ i).
    let own = row_at t.rows k in
    let equal : length own ≡ length pivot = is.lengths k inside ∙ sym long in
    let value = entry-combined (entry pivot j) (entry own j) own pivot last equal in
    let size : length (cleared pivot j own) ≡ t.columns = length-combined (entry pivot j) (entry own j) own pivot ∙ is.lengths k inside in
    subst (λ r. pos 0 ≤ℤ entry r last) (sym (row-pivoted_other t.rows i j k inside other))
    (by_eliminated pivot j own (λ r. pos 0 ≤ℤ entry r last) (λ none. sides k within)
    (reduced_nonneg (cleared pivot j own) last (subst (λ m. last < m) (sym size) end)
    (subst (λ x. pos 0 ≤ℤ x) (sym value)
    (subst (λ r. pos 0 ≤ℤ (entry own last *ℤ entry r j -ℤ entry own j *ℤ entry r last)) (sym same)
    (side_nonneg (right_side t i) (number t i j) (right_side t k) (number t k j) least.positive (sides i least.within) (sides k within) (least.least k within)))))))
    (cases_eq k i)
