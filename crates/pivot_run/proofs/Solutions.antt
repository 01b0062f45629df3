-- A pivot keeps the solutions of the rows.
-- Cite by `use Rattle.pivot_run.proofs.Solutions.{pivoted_solves}`.
use Rattle.std.proofs.Common.{◌≡◌, ◌≢◌, ℕ, suc, ◌<◌, ⊎_elim, refl, sym, ap, subst, ◌∙◌, arith, List, [], ◌∷◌, length, map, ℤ, pos, negsuc, ◌-ℤ◌, ◌*ℤ◌, neg_ℤ, ◌<ℤ◌, unsigned_abs, int_div, int_lt}
use Rattle.std.specs.Int.{◌∣◌}
use Rattle.std.proofs.lemmas.Int.{ints, by_lt_z}
use Rattle.std.proofs.lemmas.Nat.Gcd.{mod-eq-zero_of_dvd}
use Rattle.std.proofs.lemmas.Bool.{cases_eq, cond_both}
use Rattle.std.proofs.lemmas.List.{length-map, get_or-map, get_or-set_same, get_or-set_other, length-set}
use Rattle.pivot_run.specs.Prelude.{entry, reduced, upright, combined, cleared, divisor_of, eliminated, AreAsLong, pivot_row, pivoted, row_at, dot, Solves}
use Rattle.uc_model.proofs.Common.{linear, mul_comm, mul_assoc, mul-add, mul-zero, sub-mul, neg-mul, mul-neg, le_from_mul, le_antisymm}
use Rattle.pivot_run.proofs.Orders.{int_lt-true, int_lt-false}
use Rattle.pivot_run.proofs.Divisors.{divisor_of-positive, divisor_of-divides}

-- ---- the sum of products over a row
one_product : (x p e y z : ℤ) → (x *ℤ p -ℤ e *ℤ y) *ℤ z ≡ p *ℤ (x *ℤ z) -ℤ e *ℤ (y *ℤ z)
one_product x p e y z = grind (arith, ints, sub-mul, mul_comm, mul_assoc)

pub dot-combined : (p e : ℤ) (row other : List ℤ) (v : ℕ → ℤ) → length row ≡ length other → dot (combined p e row other) v ≡ p *ℤ dot row v -ℤ e *ℤ dot other v
dot-combined p e [] [] v h = let a = mul-zero p in let b = mul-zero e in omega (arith, linear)
dot-combined p e [] (y ∷ ys) v h = absurd (omega arith)
dot-combined p e (x ∷ xs) [] v h = absurd (omega arith)
dot-combined p e (x ∷ xs) (y ∷ ys) v h =
    let first = one_product x p e y (v 0) in
    let rest = dot-combined p e xs ys (λ c. v (suc c)) (omega arith) in
    let a = mul-add p (x *ℤ v 0) (dot xs (λ c. v (suc c))) in
    let b = mul-add e (y *ℤ v 0) (dot ys (λ c. v (suc c))) in
    omega (arith, linear)

pub dot-neg : (row : List ℤ) (v : ℕ → ℤ) → dot (map neg_ℤ row) v ≡ neg_ℤ (dot row v)
dot-neg [] v = refl
dot-neg (x ∷ xs) v = let first = neg-mul x (v 0) in let rest = dot-neg xs (λ c. v (suc c)) in omega (arith, linear)

-- an exact quotient
pub exact : (x : ℤ) (d : ℕ) → 0 < d → d ∣ unsigned_abs x → pos d *ℤ int_div x (pos d) ≡ x
exact (pos n) d positive h = let none = mod-eq-zero_of_dvd d h in omega (arith, ints)
exact (negsuc n) d positive h = grind (arith, ints, mod-eq-zero_of_dvd, mul-neg, positive, h)

dot-quotients : (d : ℕ) (row : List ℤ) (v : ℕ → ℤ) → 0 < d → ((k : ℕ) → k < length row → d ∣ unsigned_abs (entry row k))
    → pos d *ℤ dot (map (λ x. int_div x (pos d)) row) v ≡ dot row v
dot-quotients d [] v positive h = mul-zero (pos d)
dot-quotients d (x ∷ xs) v positive h =
    let a = mul-add (pos d) (int_div x (pos d) *ℤ v 0) (dot (map (λ y. int_div y (pos d)) xs) (λ c. v (suc c))) in
    let b = sym (mul_assoc (pos d) (int_div x (pos d)) (v 0)) ∙ ap (λ w. w *ℤ v 0) (exact x d positive (h 0 (omega arith))) in
    let rest = dot-quotients d xs (λ c. v (suc c)) positive (λ k l. h (suc k) (omega arith)) in
    omega (arith, linear)

pub dot-reduced : (row : List ℤ) (v : ℕ → ℤ) → pos (divisor_of row) *ℤ dot (reduced row) v ≡ dot row v
dot-reduced row v = dot-quotients (divisor_of row) row v (divisor_of-positive row) (divisor_of-divides row)

-- a positive factor of 0
pub no_factor : (p a : ℤ) → pos 0 <ℤ p → p *ℤ a ≡ pos 0 → a ≡ pos 0
no_factor p a positive e =
    let none = mul-zero p in
    le_antisymm a (pos 0) (le_from_mul p a (pos 0) positive (omega (arith, linear))) (le_from_mul p (pos 0) a positive (omega (arith, linear)))

pub positive_divisor : (row : List ℤ) → pos 0 <ℤ pos (divisor_of row)
positive_divisor row = let positive = divisor_of-positive row in omega (arith, linear, positive)

-- ---- a row over its divisor
pub reduced_solves : (row : List ℤ) (v : ℕ → ℤ) → dot row v ≡ pos 0 → dot (reduced row) v ≡ pos 0
reduced_solves row v h = no_factor (pos (divisor_of row)) (dot (reduced row) v) (positive_divisor row) (dot-reduced row v ∙ h)

pub reduced_solved : (row : List ℤ) (v : ℕ → ℤ) → dot (reduced row) v ≡ pos 0 → dot row v ≡ pos 0
reduced_solved row v h = sym (dot-reduced row v) ∙ ap (λ x. pos (divisor_of row) *ℤ x) h ∙ mul-zero (pos (divisor_of row))

-- ---- a row negated
pub length-upright : (j : ℕ) (row : List ℤ) → length (upright j row) ≡ length row
length-upright j row = cond_both (int_lt (entry row j) (pos 0)) (map neg_ℤ row) row (λ r. length r ≡ length row) (λ e. length-map row neg_ℤ) (λ e. refl)

upright_solves : (j : ℕ) (row : List ℤ) (v : ℕ → ℤ) → dot row v ≡ pos 0 → dot (upright j row) v ≡ pos 0
upright_solves j row v h = grind (arith, ints, int_lt, dot-neg, h)

upright_solved : (j : ℕ) (row : List ℤ) (v : ℕ → ℤ) → dot (upright j row) v ≡ pos 0 → dot row v ≡ pos 0
upright_solved j row v = grind (arith, ints, int_lt, dot-neg)

pub upright_positive : (j : ℕ) (row : List ℤ) → j < length row → entry row j ≢ pos 0 → pos 0 <ℤ entry (upright j row) j
upright_positive j row within apart = grind (arith, ints, int_lt, int_lt-true, get_or-map, by_lt_z, le_antisymm, int_lt-false, within, apart)

-- ---- a row cleared
cleared_solves : (pivot : List ℤ) (j : ℕ) (row : List ℤ) (v : ℕ → ℤ) → length row ≡ length pivot → dot pivot v ≡ pos 0 → dot row v ≡ pos 0 → dot (cleared pivot j row) v ≡ pos 0
cleared_solves pivot j row v same h k = grind (arith, ints, dot-combined, mul-zero, same, h, k)

cleared_solved : (pivot : List ℤ) (j : ℕ) (row : List ℤ) (v : ℕ → ℤ) → length row ≡ length pivot → pos 0 <ℤ entry pivot j → dot pivot v ≡ pos 0
    → dot (cleared pivot j row) v ≡ pos 0 → dot row v ≡ pos 0
cleared_solved pivot j row v same positive h k = grind (arith, ints, dot-combined, mul-zero, no_factor, same, positive, h, k)

-- a row after a pivot: one that is 0 in the column stays, and any other is cleared
pub by_eliminated : (pivot : List ℤ) (j : ℕ) (row : List ℤ) (P : List ℤ → Type 0) → (entry row j ≡ pos 0 → P row) → P (reduced (cleared pivot j row))
    → P (eliminated pivot j row)
by_eliminated pivot j row P stays clears = grind (arith, ints, stays, clears)

eliminated_solves : (pivot : List ℤ) (j : ℕ) (row : List ℤ) (v : ℕ → ℤ) → length row ≡ length pivot → dot pivot v ≡ pos 0 → dot row v ≡ pos 0
    → dot (eliminated pivot j row) v ≡ pos 0
eliminated_solves pivot j row v same h k = grind (arith, ints, by_eliminated, reduced_solves, cleared_solves, same, h, k)

eliminated_solved : (pivot : List ℤ) (j : ℕ) (row : List ℤ) (v : ℕ → ℤ) → length row ≡ length pivot → pos 0 <ℤ entry pivot j → dot pivot v ≡ pos 0
    → dot (eliminated pivot j row) v ≡ pos 0 → dot row v ≡ pos 0
eliminated_solved pivot j row v same positive h =
    by_eliminated pivot j row (λ r. dot r v ≡ pos 0 → dot row v ≡ pos 0) (λ none k. k)
    (λ k. cleared_solved pivot j row v same positive h (reduced_solved (cleared pivot j row) v k))

-- ---- the rows of a pivot
pub row-pivoted_at : (rows : List (List ℤ)) (i j : ℕ) → i < length rows → row_at (pivoted rows i j) i ≡ reduced (pivot_row rows i j)
row-pivoted_at rows i j within = grind (arith, ints, get_or-set_same, length-map, within)

pub row-pivoted_other : (rows : List (List ℤ)) (i j k : ℕ) → k < length rows → k ≢ i → row_at (pivoted rows i j) k ≡ eliminated (pivot_row rows i j) j (row_at rows k)
row-pivoted_other rows i j k within other = grind (arith, ints, get_or-set_other, get_or-map, within, other)

pub length-pivoted : (rows : List (List ℤ)) (i j : ℕ) → length (pivoted rows i j) ≡ length rows
length-pivoted rows i j = grind (arith, ints, length-set, length-map)

pub pivoted_solves : (rows : List (List ℤ)) (n i j : ℕ) (v : ℕ → ℤ) → AreAsLong rows n → i < length rows → Solves rows v → Solves (pivoted rows i j) v
pivoted_solves rows n i j v lengths row h k l =
    let pivot = pivot_row rows i j in
    let within : k < length rows = subst (λ m. k < m) (length-pivoted rows i j) l in
    let here : dot pivot v ≡ pos 0 = upright_solves j (row_at rows i) v (h i row) in
    ⊎_elim
    (λ (same : k ≡ i). ap (λ r. dot r v) (ap (row_at (pivoted rows i j)) same ∙ row-pivoted_at rows i j row) ∙ reduced_solves pivot v here)
    (λ (other : k ≢ i). ap (λ r. dot r v) (row-pivoted_other rows i j k within other)
    ∙ eliminated_solves pivot j (row_at rows k) v (lengths k within ∙ sym (length-upright j (row_at rows i) ∙ lengths i row)) here (h k within))
    (cases_eq k i)

pub pivoted_solved : (rows : List (List ℤ)) (n i j : ℕ) (v : ℕ → ℤ) → AreAsLong rows n → i < length rows → j < n → entry (row_at rows i) j ≢ pos 0
    → Solves (pivoted rows i j) v → Solves rows v
pivoted_solved rows n i j v lengths row column apart h k within =
    let pivot = pivot_row rows i j in
    let all = length-pivoted rows i j in
    let here : dot pivot v ≡ pos 0 =
    reduced_solved pivot v (ap (λ r. dot r v) (sym (row-pivoted_at rows i j row)) ∙ h i (subst (λ m. i < m) (sym all) row)) in
    ⊎_elim
    (λ (same : k ≡ i). subst (λ m. dot (row_at rows m) v ≡ pos 0) (sym same) (upright_solved j (row_at rows i) v here))
    (λ (other : k ≢ i).
    eliminated_solved pivot j (row_at rows k) v (lengths k within ∙ sym (length-upright j (row_at rows i) ∙ lengths i row))
    (upright_positive j (row_at rows i) (subst (λ m. j < m) (sym (lengths i row)) column) apart) here
    (ap (λ r. dot r v) (sym (row-pivoted_other rows i j k within other)) ∙ h k (subst (λ m. k < m) (sym all) within)))
    (cases_eq k i)
