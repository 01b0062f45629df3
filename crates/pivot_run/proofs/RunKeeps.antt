-- What a run keeps, where each row from which an artificial column is driven has the right side 0.
-- Cite by `use Rattle.pivot_run.proofs.RunKeeps.{run_keeps}`.
use Rattle.std.proofs.Common.{◌≡◌, ◌≢◌, ◌⊎◌, ⊎_elim, inl, inr, ℕ, zero, suc, ◌+◌, ◌<◌, ◌≤◌, Option, None, Some, refl, ap, subst, ◌∙◌, arith, length, pos, int_lt}
use Rattle.std.specs.Option.{option_map}
use Rattle.std.proofs.lemmas.Bool.{cases_Bool, cond-true, cond-false}
use Rattle.std.proofs.lemmas.Option.{some_pair_parts}
use Rattle.std.proofs.lemmas.List.{get_or-take, length-take}
use Rattle.std.proofs.lemmas.List.Quantifiers.{position-Some}
use Rattle.pivot_run.specs.Prelude.{row_at, Table, entering, leaving, number, pivoted_table, right_side, Keeps, next, driven, first_driven, or_later, State, advanced, after_sum, cost_target, drives, on_row, plan_of, rows_target, state_after, target}
use Rattle.pivot_run.specs.declared.target.Target.{Target}
use Rattle.pivot_run.specs.declared.target.Target.TheVariants.{Row, Drive, Ended}
use Rattle.pivot_run.proofs.Solutions.{length-pivoted, pivoted_solves, pivoted_solved}
use Rattle.pivot_run.proofs.Basis.{basic_other, basis_kept}
use Rattle.pivot_run.proofs.ZeroSides.{zero_sides_kept}
use Rattle.pivot_run.proofs.PivotKeeps.{entering_within, next_parts, pivot_keeps, table_kept}

-- ---- what is driven
later_parts : (k i j : ℕ) (d : Option ℕ) (later : Option (ℕ × ℕ)) → or_later k d later ≡ Some (i, j) → ((k ≡ i) × (d ≡ Some j)) ⊎ (later ≡ Some (i, j))
later_parts k i j None later e = inr e
later_parts k i j (Some a) later e = let same = some_pair_parts k i a j e in inl (same.0, ap Some same.1)

first_driven_is : (free : ℕ) (t : Table) (k n i j : ℕ) → first_driven free t k n ≡ Some (i, j) → (0 < n) × (i < k + n) × (driven free t i ≡ Some j)
first_driven_is free t k zero i j e = absurd (cc)
first_driven_is free t k (suc n) i j e = ⊎_elim
    (λ (here : (k ≡ i) × (driven free t k ≡ Some j)). (omega arith, omega (arith, here.0), subst (λ m. driven free t m ≡ Some j) here.0 here.1))
    (λ (later : first_driven free t (suc k) n ≡ Some (i, j)).
    let fact = first_driven_is free t (suc k) n i j later in (omega arith, omega (arith, fact.1), fact.2))
    (later_parts k i j (driven free t k) (first_driven free t (suc k) n) e)

driven_is : (free : ℕ) (t : Table) (i j : ℕ) → driven free t i ≡ Some j → (j < free) × (number t i j ≢ pos 0)
driven_is free t i j e = grind (arith, cond-true, cond-false, position-Some, length-take, get_or-take, cases_Bool, e)

-- ---- the target
drives_parts : (i j : ℕ) (found : Option (ℕ × ℕ)) (other : Target) → drives found other ≡ Drive i j → (found ≡ Some (i, j)) ⊎ (other ≡ Drive i j)
drives_parts i j None other e = inr e
drives_parts i j (Some p) other e = grind (arith, p, e)

on_row_parts : (o stage i j : ℕ) (found : Option ℕ) (other : Target) → on_row o stage found other ≡ Drive i j → other ≡ Drive i j
on_row_parts o stage i j None other e = e
on_row_parts o stage i j (Some k) other e = absurd (cc)

cost_drives : (free : ℕ) (t : Table) (i j : ℕ) → cost_target free t ≡ Drive i j → ⊥
cost_drives free t i j e = grind (arith, e)

rows_drive : (free : ℕ) (t : Table) (k i j : ℕ) → rows_target free t k ≡ Drive i j → (i < t.constraints) × (driven free t i ≡ Some j)
rows_drive free t k i j e = grind (arith, first_driven_is, cost_drives, drives_parts, e)

sum_drives : (free : ℕ) (t : Table) (i j : ℕ) → after_sum free t ≡ Drive i j → (i < t.constraints) × (driven free t i ≡ Some j)
sum_drives free t i j e = grind (arith, int_lt, cond-true, rows_drive, cond-false, cases_Bool, e)

target_drives : (free : ℕ) (t : Table) (stage i j : ℕ) → target free t stage ≡ Drive i j → (i < t.constraints) × (driven free t i ≡ Some j)
target_drives free t zero i j e = grind (arith, sum_drives, on_row_parts, e)
target_drives free t (suc k) i j e = rows_drive free t k i j e

-- ---- one pivot
zero_keeps : (start t : Table) (i j : ℕ) → Keeps start t → i < t.constraints → j < t.columns → number t i j ≢ pos 0 → right_side t i ≡ pos 0 → Keeps start (pivoted_table t i j)
zero_keeps start t i j keeps within column apart none =
    let row : i < length t.rows = omega (arith, within, keeps.table.few) in
    record {
      table = table_kept t i j keeps.table row;
      basis = basis_kept t i j keeps.table keeps.basis row column apart;
      columns = keeps.columns;
      rows = length-pivoted t.rows i j ∙ keeps.rows;
      count = keeps.count;
      others = λ k h. basic_other t i j k (omega (arith, h, within, keeps.count)) ∙ keeps.others k h;
      sides = zero_sides_kept t i j keeps.table keeps.basis within column apart none keeps.sides;
      solutions = λ v. (
        λ h. pivoted_solves t.rows t.columns i j v keeps.table.lengths row ((keeps.solutions v).0 h),
        λ h. (keeps.solutions v).1 (pivoted_solved t.rows t.columns i j v keeps.table.lengths row column apart h),
      );
    }

row_keeps : (free : ℕ) (start : Table) (s : State) (o stage : ℕ) (found : Option (ℕ × ℕ)) → Keeps start s.table → free ≤ start.columns → next o free s.table ≡ found
    → Keeps start (advanced s (option_map {U = ℕ × ℕ × ℕ} (λ p. (stage, p.0, p.1)) found)).table
row_keeps free start s o stage None keeps within e = keeps
row_keeps free start s o stage (Some p) keeps within e =
    let parts = next_parts (λ j. leaving s.table j s.table.constraints) (entering free (row_at s.table.rows o)) p.0 p.1 e in
    let enters = entering_within free (row_at s.table.rows o) p.1 parts.0 in
    pivot_keeps start s.table p.0 p.1 keeps (omega (arith, enters, keeps.columns, within)) parts.1

advanced_keeps : (free : ℕ) (start : Table) (s : State) (aim : Target) → Keeps start s.table → free ≤ start.columns → target free s.table s.stage ≡ aim
    → ((i j : ℕ) → aim ≡ Drive i j → right_side s.table i ≡ pos 0) → Keeps start (advanced s (plan_of free s.table aim)).table
advanced_keeps free start s (Row o stage) keeps within e zeros = row_keeps free start s o stage (next o free s.table) keeps within refl
advanced_keeps free start s (Drive i j) keeps within e zeros =
    let found = target_drives free s.table s.stage i j e in
    let column = driven_is free s.table i j found.1 in
    zero_keeps start s.table i j keeps found.0 (omega (arith, column.0, keeps.columns, within)) column.1 (zeros i j refl)
advanced_keeps free start s Ended keeps within e zeros = keeps

-- ---- the run
pub run_keeps : (free : ℕ) (start : State) (n : ℕ) → Keeps start.table start.table → free ≤ start.table.columns
    → ((k i j : ℕ) → target free (state_after free start k).table (state_after free start k).stage ≡ Drive i j → right_side (state_after free start k).table i ≡ pos 0)
    → Keeps start.table (state_after free start n).table
run_keeps free start zero keeps within zeros = keeps
run_keeps free start (suc n) keeps within zeros =
    let now = state_after free start n in
    advanced_keeps free start.table now (target free now.table now.stage) (run_keeps free start n keeps within zeros) within refl (zeros n)
