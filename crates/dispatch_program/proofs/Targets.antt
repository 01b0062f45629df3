-- What a run's next step is, case by case, and what the search for a row to drive out says of the rows that it passes.
-- Cite by `use Rattle.dispatch_program.proofs.Targets.{by_target}`.
use Rattle.std.proofs.Common.{◌≡◌, ◌≢◌, ◌⊎◌, ⊎_elim, inl, inr, ℕ, zero, suc, ◌+◌, ◌-◌, ◌<◌, ◌≤◌, Bool, true, false, Option, None, Some, refl, sym, ap, subst, ◌∙◌, arith, List, length, take, position, slice_index_or, ℤ, pos, ◌≤ℤ◌, ◌<ℤ◌, int_lt, nat_lt}
use Rattle.std.specs.List.{position_or_len}
use Rattle.std.proofs.lemmas.Grind.{common_steps}
use Rattle.std.proofs.lemmas.Bool.{cases_Bool, cases_lt, cond-true, cond-false}
use Rattle.std.proofs.lemmas.Int.{ints}
use Rattle.std.proofs.lemmas.Option.{some_pair_parts}
use Rattle.std.proofs.lemmas.List.{get_or-take, get_or_past, length-take}
use Rattle.std.proofs.lemmas.List.Sums.{fails_before_first}
use Rattle.std.proofs.lemmas.List.Quantifiers.{position-Some}
use Rattle.pivot_run.specs.Prelude.{entry, row_at, Table, basic, entering, number, right_side, driven, first_driven, is_some_number, or_later, after_sum, cost_target, drives, on_row, rows_target, target}
use Rattle.pivot_run.specs.declared.target.Target.{Target}
use Rattle.pivot_run.specs.declared.target.Target.TheVariants.{Row, Drive, Ended}
use Rattle.pivot_run.proofs.Orders.{int_lt-true, int_lt-false}

-- ---- a position that isn't there
all_fail : {A : Type 0} (test : A → Bool) (xs : List A) → position test xs ≡ None → (i : ℕ) (d : A) → i < length xs → test (slice_index_or xs i d) ≡ false
all_fail test xs e i d h = let none : length xs ≤ position_or_len test xs = grind (arith, common_steps) in fails_before_first test xs i d (omega arith)

none_below : (free : ℕ) (row : List ℤ) (test : ℤ → Bool) → test (pos 0) ≡ false → position test (take free row) ≡ None → (c : ℕ) → c < free → test (entry row c) ≡ false
none_below free row test zero_fails e c h = ⊎_elim
    (λ (inside : c < length (take free row)).
    ap test (sym (get_or-take free row c (pos 0) h)) ∙ all_fail test (take free row) e c (pos 0) inside)
    (λ (past : length (take free row) ≤ c).
    ap test (sym (get_or-take free row c (pos 0) h) ∙ get_or_past (take free row) c (pos 0) past) ∙ zero_fails)
    (cases_lt c (length (take free row)))

-- ---- a column that enters
pub enters_below : (free : ℕ) (row : List ℤ) (j : ℕ) → entering free row ≡ Some j → (j < free) × (entry row j <ℤ pos 0)
enters_below free row j e =
    let fact = position-Some (λ x. int_lt x (pos 0)) (take free row) j (pos 0) e in
    let within : j < free = omega (arith, fact.0, length-take free row) in
    let below : int_lt (entry row j) (pos 0) ≡ true = ap (λ x. int_lt x (pos 0)) (sym (get_or-take free row j (pos 0) within)) ∙ fact.1 in
    (within, int_lt-true (entry row j) (pos 0) below)

pub none_enters : (free : ℕ) (row : List ℤ) → entering free row ≡ None → (c : ℕ) → c < free → pos 0 ≤ℤ entry row c
none_enters free row e c h = int_lt-false (entry row c) (pos 0) (none_below free row (λ x. int_lt x (pos 0)) refl e c h)

-- ---- a row that is driven out, or is done
abbrev pub IsDone : ℕ → Table → ℕ → Type 0
IsDone free t r = (basic t r < free) ⊎ ((c : ℕ) → c < free → number t r c ≡ pos 0)

driven_none : (free : ℕ) (t : Table) (r : ℕ) → driven free t r ≡ None → IsDone free t r
driven_none free t r e = ⊎_elim
    (λ (plain : nat_lt (basic t r) free ≡ true). inl (below plain))
    (λ (artificial : nat_lt (basic t r) free ≡ false).
    let found = sym (cond-false (nat_lt (basic t r) free) None (position is_some_number (take free (row_at t.rows r))) artificial) ∙ e in
    inr (λ c h. none_there (number t r c) (none_below free (row_at t.rows r) is_some_number refl found c h)))
    (cases_Bool (nat_lt (basic t r) free))
  where
    below : nat_lt (basic t r) free ≡ true → basic t r < free
    below h = grind arith

    none_there : (x : ℤ) → is_some_number x ≡ false → x ≡ pos 0
    none_there x h = grind (arith, ints)

pub record IsDriven (free : ℕ) (t : Table) (i j : ℕ) : Type 0 where
  pub artificial : free ≤ basic t i
  pub column : j < free
  pub apart : number t i j ≢ pos 0

driven_some : (free : ℕ) (t : Table) (i j : ℕ) → driven free t i ≡ Some j → IsDriven free t i j
driven_some free t i j e = ⊎_elim
    (λ (plain : nat_lt (basic t i) free ≡ true).
    absurd (none_some (sym (cond-true (nat_lt (basic t i) free) None (position is_some_number (take free (row_at t.rows i))) plain) ∙ e)))
    (λ (artificial : nat_lt (basic t i) free ≡ false).
    let found = sym (cond-false (nat_lt (basic t i) free) None (position is_some_number (take free (row_at t.rows i))) artificial) ∙ e in
    let fact = position-Some is_some_number (take free (row_at t.rows i)) j (pos 0) found in
    let within : j < free = omega (arith, fact.0, length-take free (row_at t.rows i)) in
    record {
      artificial = not_below artificial;
      column = within;
      apart = λ none. not_some (subst (λ x. is_some_number x ≡ true) (get_or-take free (row_at t.rows i) j (pos 0) within ∙ none) fact.1);
    })
    (cases_Bool (nat_lt (basic t i) free))
  where
    none_some : None ≡ Some j → ⊥
    none_some h = cc

    not_some : is_some_number (pos 0) ≡ true → ⊥
    not_some h = cc

    not_below : nat_lt (basic t i) free ≡ false → free ≤ basic t i
    not_below h = grind arith

-- the rows from k on that are passed
abbrev ArePassed : ℕ → Table → ℕ → ℕ → Type 0
ArePassed free t k n = (r : ℕ) → k ≤ r → r < n → IsDone free t r

passed_more : (free : ℕ) (t : Table) (k n : ℕ) → driven free t k ≡ None → ArePassed free t (suc k) n → ArePassed free t k n
passed_more free t k n here later r h l = ⊎_elim
    (λ (after : k < r). later r after l)
    (λ (same : r ≤ k). let at : k ≡ r = omega arith in subst (IsDone free t) at (driven_none free t k here))
    (cases_lt k r)

none_at : (free : ℕ) (t : Table) (k n : ℕ) (d : Option ℕ) (later : Option (ℕ × ℕ)) → driven free t k ≡ d → or_later k d later ≡ None → (later ≡ None → ArePassed free t (suc k) n) → ArePassed free t k n
none_at free t k n None later here e rest = passed_more free t k n here (rest e)
none_at free t k n (Some j) later here e rest = absurd (cc)

first_none : (free : ℕ) (t : Table) (k n : ℕ) → first_driven free t k n ≡ None → ArePassed free t k (k + n)
first_none free t k zero e = λ r h l. absurd (omega arith)
first_none free t k (suc n) e =
    none_at free t k (k + suc n) (driven free t k) (first_driven free t (suc k) n) refl e
    (λ e r h l. first_none free t (suc k) n e r h (omega arith))

pub record IsFirst (free : ℕ) (t : Table) (k n i j : ℕ) : Type 0 where
  pub within : i < k + n
  pub from : k ≤ i
  pub driven : IsDriven free t i j
  pub passed : ArePassed free t k i

some_at : (free : ℕ) (t : Table) (k n i j : ℕ) (d : Option ℕ) (later : Option (ℕ × ℕ)) → driven free t k ≡ d → or_later k d later ≡ Some (i, j)
    → (later ≡ Some (i, j) → IsFirst free t (suc k) n i j) → IsFirst free t k (suc n) i j
some_at free t k n i j None later here e rest =
    let found = rest e in
    record {
      within = omega (arith, found.within);
      from = omega (arith, found.from);
      driven = found.driven;
      passed = passed_more free t k i here found.passed;
    }
some_at free t k n i j (Some c) later here e rest =
    let same = some_pair_parts k i c j e in
    record {
      within = omega (arith, same.0);
      from = omega (arith, same.0);
      driven = subst (λ m. IsDriven free t m j) same.0 (driven_some free t k j (here ∙ ap Some same.1));
      passed = λ r h l. absurd (omega (arith, same.0));
    }

first_some : (free : ℕ) (t : Table) (k n i j : ℕ) → first_driven free t k n ≡ Some (i, j) → IsFirst free t k n i j
first_some free t k zero i j e = absurd (cc)
first_some free t k (suc n) i j e =
    some_at free t k n i j (driven free t k) (first_driven free t (suc k) n) refl e (λ e. first_some free t (suc k) n i j e)

-- ---- the cases
on_row_by : (P : Target → Type 0) (o stage : ℕ) (found : Option ℕ) (other : Target) → ((j : ℕ) → found ≡ Some j → P (Row o stage)) → (found ≡ None → P other)
    → P (on_row o stage found other)
on_row_by P o stage None other some none = none refl
on_row_by P o stage (Some j) other some none = some j refl

drives_by : (P : Target → Type 0) (found : Option (ℕ × ℕ)) (other : Target) → ((i j : ℕ) → found ≡ Some (i, j) → P (Drive i j)) → (found ≡ None → P other)
    → P (drives found other)
drives_by P None other some none = none refl
drives_by P (Some x) other some none = some x.0 x.1 refl

-- the rows from k on are tried: the run is past the sum, or no sum is left
abbrev pub IsAt : Table → ℕ → ℕ → Type 0
IsAt t stage k = (stage ≡ suc k) ⊎ ((k ≡ 0) × (stage ≡ 0) × (int_lt (right_side t t.constraints) (pos 0) ≡ false))

abbrev pub sum_enters : ℕ → Table → Option ℕ
sum_enters free t = entering free (row_at t.rows t.constraints)

abbrev pub cost_enters : ℕ → Table → Option ℕ
cost_enters free t = entering free (row_at t.rows (suc t.constraints))

module _ (free : ℕ) (t : Table) (stage : ℕ) (P : Target → Type 0)
    (sum : (j : ℕ) → stage ≡ 0 → sum_enters free t ≡ Some j → P (Row t.constraints 0))
    (left : stage ≡ 0 → sum_enters free t ≡ None → int_lt (right_side t t.constraints) (pos 0) ≡ true → P Ended)
    (drive : (k i j : ℕ) → IsAt t stage k → IsFirst free t k (t.constraints - k) i j → P (Drive i j))
    (cost : (k j : ℕ) → IsAt t stage k → ArePassed free t k (k + (t.constraints - k)) → cost_enters free t ≡ Some j → P (Row (suc t.constraints) (suc t.constraints)))
    (ended : (k : ℕ) → IsAt t stage k → ArePassed free t k (k + (t.constraints - k)) → cost_enters free t ≡ None → P Ended) where
  by_rows : (k : ℕ) → IsAt t stage k → P (rows_target free t k)
  by_rows k at =
      drives_by P (first_driven free t k (t.constraints - k)) (cost_target free t)
      (λ i j e. drive k i j at (first_some free t k (t.constraints - k) i j e))
      (λ e. let passed = first_none free t k (t.constraints - k) e in
      on_row_by P (suc t.constraints) (suc t.constraints) (cost_enters free t) Ended (λ j enters. cost k j at passed enters) (λ none. ended k at passed none))

  by_stage : (s : ℕ) → stage ≡ s → P (target free t s)
  by_stage zero e =
      on_row_by P t.constraints 0 (sum_enters free t) (after_sum free t) (λ j enters. sum j e enters)
      (λ none. ⊎_elim
      (λ (below : int_lt (right_side t t.constraints) (pos 0) ≡ true).
      subst P (sym (cond-true (int_lt (right_side t t.constraints) (pos 0)) Ended (rows_target free t 0) below)) (left e none below))
      (λ (above : int_lt (right_side t t.constraints) (pos 0) ≡ false).
      subst P (sym (cond-false (int_lt (right_side t t.constraints) (pos 0)) Ended (rows_target free t 0) above)) (by_rows 0 (inr (refl, e, above))))
      (cases_Bool (int_lt (right_side t t.constraints) (pos 0))))
  by_stage (suc k) e = by_rows k (inl e)

  pub by_target : P (target free t stage)
  by_target = by_stage stage refl
