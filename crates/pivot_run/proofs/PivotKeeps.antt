-- What a pivot keeps, and the pivot that comes next.
-- Cite by `use Rattle.pivot_run.proofs.PivotKeeps.{pivot_keeps}`.
use Rattle.std.proofs.Common.{◌≡◌, ◌≢◌, ℕ, ◌<◌, ⊎_elim, Option, None, Some, sym, ap, subst, ◌∙◌, arith, List, length, ℤ, pos, ◌≤ℤ◌, int_lt, int_div}
use Rattle.std.specs.Option.{option_and_then, option_map}
use Rattle.std.proofs.lemmas.Bool.{cases_eq}
use Rattle.std.proofs.lemmas.List.{length-map, length-set, length-take}
use Rattle.std.proofs.lemmas.List.Quantifiers.{position-Some}
use Rattle.pivot_run.specs.Prelude.{entry, cleared, divisor_of, AreAsLong, pivot_row, pivoted, row_at, IsBasic, IsTable, Table, entering, leaving, number, pivoted_table, right_side, Keeps}
use Rattle.uc_model.proofs.Common.{linear}
use Rattle.pivot_run.proofs.Clearing.{length-combined}
use Rattle.pivot_run.proofs.Solutions.{by_eliminated, length-upright, length-pivoted, row-pivoted_at, row-pivoted_other, pivoted_solves, pivoted_solved}
use Rattle.pivot_run.proofs.Ratios.{IsLeast, IsLeaving, leaving_is}
use Rattle.pivot_run.proofs.RightSides.{right_sides_kept}
use Rattle.pivot_run.proofs.Basis.{basic_other, basis_kept}

-- ---- the pivot that comes next
pub next_parts : (choose : ℕ → Option ℕ) (found : Option ℕ) (i j : ℕ) → option_and_then {U = ℕ × ℕ} (λ k. option_map {U = ℕ × ℕ} (λ a. (a, k)) (choose k)) found ≡ Some (i, j)
    → (found ≡ Some j) × (choose j ≡ Some i)
next_parts choose None i j e = absurd (cc)
next_parts choose (Some k) i j e = grind (arith, linear, e)

-- a column that enters is one of those that may
pub entering_within : (count : ℕ) (row : List ℤ) (j : ℕ) → entering count row ≡ Some j → j < count
entering_within count row j e = grind (arith, linear, position-Some, int_lt, length-take, e)

at_least : (t : Table) (j n i : ℕ) (found : Option ℕ) → found ≡ Some i → IsLeaving t j n found → IsLeast t j n i
at_least t j n i found e is = subst (λ o. IsLeaving t j n o) e is

-- ---- the size
lengths_kept : (rows : List (List ℤ)) (n i j : ℕ) → AreAsLong rows n → i < length rows → AreAsLong (pivoted rows i j) n
lengths_kept rows n i j lengths row k h =
    let pivot = pivot_row rows i j in
    let within : k < length rows = subst (λ m. k < m) (length-pivoted rows i j) h in
    let over = λ (r : List ℤ). length-map r (λ x. int_div x (pos (divisor_of r))) in
    ⊎_elim
    (λ (here : k ≡ i). ap length (ap (row_at (pivoted rows i j)) here ∙ row-pivoted_at rows i j row) ∙ over pivot ∙ length-upright j (row_at rows i) ∙ lengths i row)
    (λ (other : k ≢ i). ap length (row-pivoted_other rows i j k within other)
    ∙ by_eliminated pivot j (row_at rows k) (λ r. length r ≡ n) (λ none. lengths k within)
    (over (cleared pivot j (row_at rows k)) ∙ length-combined (entry pivot j) (entry (row_at rows k) j) (row_at rows k) pivot ∙ lengths k within))
    (cases_eq k i)

pub table_kept : (t : Table) (i j : ℕ) → IsTable t → i < length t.rows → IsTable (pivoted_table t i j)
table_kept t i j is row = record {
  lengths = lengths_kept t.rows t.columns i j is.lengths row;
  wide = is.wide;
  few = omega (arith, is.few, length-pivoted t.rows i j);
  each = length-set t.basis i j ∙ is.each ∙ sym (length-pivoted t.rows i j);
}

-- ---- no pivot
pub keeps_itself : (t : Table) → IsTable t → IsBasic t → ((k : ℕ) → k < t.constraints → pos 0 ≤ℤ right_side t k) → Keeps t t
keeps_itself t table basis sides = grind (arith, linear, table, basis, sides)

-- ---- one pivot
pub pivot_keeps : (start t : Table) (i j : ℕ) → Keeps start t → j < t.columns → leaving t j t.constraints ≡ Some i → Keeps start (pivoted_table t i j)
pivot_keeps start t i j keeps column found =
    let least = at_least t j t.constraints i (leaving t j t.constraints) found (leaving_is t j t.constraints) in
    let row : i < length t.rows = omega (arith, least.within, keeps.table.few) in
    let apart : number t i j ≢ pos 0 = λ e. absurd (omega (arith, linear, e, least.positive)) in
    record {
      table = table_kept t i j keeps.table row;
      basis = basis_kept t i j keeps.table keeps.basis row column apart;
      columns = keeps.columns;
      rows = length-pivoted t.rows i j ∙ keeps.rows;
      count = keeps.count;
      others = λ k h. basic_other t i j k (omega (arith, h, least.within, keeps.count)) ∙ keeps.others k h;
      sides = right_sides_kept t i j keeps.table column found keeps.sides;
      solutions = λ v. (
        λ h. pivoted_solves t.rows t.columns i j v keeps.table.lengths row ((keeps.solutions v).0 h),
        λ h. (keeps.solutions v).1 (pivoted_solved t.rows t.columns i j v keeps.table.lengths row column apart h),
      );
    }
