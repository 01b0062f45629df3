-- The values that a basis gives solve the rows: those of its columns make up for one other column.
-- Cite by `use Rattle.pivot_run.proofs.Values.{values_solve}`.
use Rattle.std.proofs.Common.{◌≡◌, ◌≢◌, ℕ, zero, suc, ◌<◌, ◌≤◌, ⊎_elim, refl, sym, ap, subst, ◌∙◌, arith, List, [], ◌∷◌, length, ℤ, pos, ◌+ℤ◌, ◌*ℤ◌, ◌≤ℤ◌, neg_ℤ}
use Rattle.std.proofs.lemmas.Bool.{cases_eq, cases_lt}
use Rattle.pivot_run.specs.Prelude.{entry, row_at, dot, IsBasic, Table, basic, number, at_column, values_of}
use Rattle.uc_model.proofs.Common.{le_refl, linear, mul-add, mul-zero, zero-mul, mul-neg, mul_assoc, mul_comm}

pub dot-add : (row : List ℤ) (v w : ℕ → ℤ) → dot row (λ c. v c +ℤ w c) ≡ dot row v +ℤ dot row w
dot-add [] v w = refl
dot-add (x ∷ xs) v w =
    let first = mul-add x (v 0) (w 0) in
    let rest = dot-add xs (λ c. v (suc c)) (λ c. w (suc c)) in
    omega (arith, linear)

dot-none : (row : List ℤ) (v : ℕ → ℤ) → ((c : ℕ) → v c ≡ pos 0) → dot row v ≡ pos 0
dot-none [] v h = refl
dot-none (x ∷ xs) v h =
    let first : x *ℤ v 0 ≡ pos 0 = ap (λ z. x *ℤ z) (h 0) ∙ mul-zero x in
    let rest = dot-none xs (λ c. v (suc c)) (λ c. h (suc c)) in
    omega (arith, linear)

-- a value in one column alone
pub dot-at_column : (row : List ℤ) (a : ℕ) (z : ℤ) → dot row (at_column a z) ≡ entry row a *ℤ z
dot-at_column [] a z = sym (zero-mul z)
dot-at_column (x ∷ xs) zero z =
    let rest = dot-none xs (λ c. at_column 0 z (suc c)) (λ c. refl) in omega (arith, linear)
dot-at_column (x ∷ xs) (suc a) z =
    let first = mul-zero x in
    let rest = dot-at_column xs a z in omega (arith, linear)

-- what the values of the first n rows of the basis make of a row
pub sum_before : (t : Table) (column : ℕ) (whole : ℤ) (share : ℕ → ℤ) (l n : ℕ) → n ≤ l → n ≤ length t.rows → l < length t.rows → IsBasic t
    → dot (row_at t.rows l) (values_of t column whole share n) ≡ number t l column *ℤ whole
sum_before t column whole share l zero before within row is = dot-at_column (row_at t.rows l) column whole
sum_before t column whole share l (suc n) before within row is =
    let one = dot-add (row_at t.rows l) (values_of t column whole share n) (at_column (basic t n) (neg_ℤ (number t n column *ℤ share n))) in
    let other = dot-at_column (row_at t.rows l) (basic t n) (neg_ℤ (number t n column *ℤ share n)) in
    let none : number t l (basic t n) *ℤ neg_ℤ (number t n column *ℤ share n) ≡ pos 0 =
    ap (λ x. x *ℤ neg_ℤ (number t n column *ℤ share n)) (is.others n l (omega arith) row (omega arith)) ∙ zero-mul (neg_ℤ (number t n column *ℤ share n)) in
    let rest = sum_before t column whole share l n (omega arith) (omega arith) row is in
    omega (arith, linear)

pub values_solve : (t : Table) (column : ℕ) (whole : ℤ) (share : ℕ → ℤ) (l n : ℕ) → l < n → n ≤ length t.rows → l < length t.rows → IsBasic t
    → ((k : ℕ) → k < length t.rows → number t k (basic t k) *ℤ share k ≡ whole)
    → dot (row_at t.rows l) (values_of t column whole share n) ≡ pos 0
values_solve t column whole share l zero before within row is shares = absurd (omega arith)
values_solve t column whole share l (suc n) before within row is shares =
    let one = dot-add (row_at t.rows l) (values_of t column whole share n) (at_column (basic t n) (neg_ℤ (number t n column *ℤ share n))) in
    let other = dot-at_column (row_at t.rows l) (basic t n) (neg_ℤ (number t n column *ℤ share n)) in
    ⊎_elim
    (λ (less : l < n).
    let none : number t l (basic t n) *ℤ neg_ℤ (number t n column *ℤ share n) ≡ pos 0 =
    ap (λ x. x *ℤ neg_ℤ (number t n column *ℤ share n)) (is.others n l (omega arith) row (omega arith)) ∙ zero-mul (neg_ℤ (number t n column *ℤ share n)) in
    let rest = values_solve t column whole share l n less (omega arith) row is shares in
    omega (arith, linear))
    (λ (most : n ≤ l).
    let same : l ≡ n = omega arith in
    let rest = sum_before t column whole share l n most (omega arith) row is in
    let own = own_share t column whole share l n same (shares l (omega arith)) in
    omega (arith, linear))
    (cases_lt l n)
  where
    own_share : (t : Table) (column : ℕ) (whole : ℤ) (share : ℕ → ℤ) (l n : ℕ) → l ≡ n → number t l (basic t l) *ℤ share l ≡ whole
        → number t l (basic t n) *ℤ neg_ℤ (number t n column *ℤ share n) ≡ neg_ℤ (number t l column *ℤ whole)
    own_share t column whole share l n same h =
        subst (λ m. number t l (basic t m) *ℤ neg_ℤ (number t m column *ℤ share m) ≡ neg_ℤ (number t l column *ℤ whole)) same
        (mul-neg (number t l (basic t l)) (number t l column *ℤ share l)
        ∙ ap neg_ℤ (sym (mul_assoc (number t l (basic t l)) (number t l column) (share l))
        ∙ ap (λ x. x *ℤ share l) (mul_comm (number t l (basic t l)) (number t l column))
        ∙ mul_assoc (number t l column) (number t l (basic t l)) (share l) ∙ ap (λ x. number t l column *ℤ x) h))

-- ---- they are not below 0
pub at_column-nonneg : (a : ℕ) (z : ℤ) (c : ℕ) → pos 0 ≤ℤ z → pos 0 ≤ℤ at_column a z c
at_column-nonneg zero z zero h = h
at_column-nonneg zero z (suc c) h = le_refl (pos 0)
at_column-nonneg (suc a) z zero h = le_refl (pos 0)
at_column-nonneg (suc a) z (suc c) h = at_column-nonneg a z c h

at_column-other : (a : ℕ) (z : ℤ) (c : ℕ) → a ≢ c → at_column a z c ≡ pos 0
at_column-other zero z zero h = absurd (h refl)
at_column-other zero z (suc c) h = refl
at_column-other (suc a) z zero h = refl
at_column-other (suc a) z (suc c) h = at_column-other a z c (λ e. h (ap suc e))

pub values_nonneg : (t : Table) (column : ℕ) (whole : ℤ) (share : ℕ → ℤ) (n c : ℕ) → pos 0 ≤ℤ at_column column whole c
    → ((k : ℕ) → k < n → basic t k ≡ c → (number t k column *ℤ share k) ≤ℤ pos 0) → pos 0 ≤ℤ values_of t column whole share n c
values_nonneg t column whole share zero c h each = h
values_nonneg t column whole share (suc n) c h each =
    let rest = values_nonneg t column whole share n c h (λ k l. each k (omega arith)) in
    let one : pos 0 ≤ℤ at_column (basic t n) (neg_ℤ (number t n column *ℤ share n)) c =
    ⊎_elim
    (λ (here : basic t n ≡ c). let last = each n (omega arith) here in
    at_column-nonneg (basic t n) (neg_ℤ (number t n column *ℤ share n)) c (omega (arith, linear)))
    (λ (other : basic t n ≢ c). subst (λ x. pos 0 ≤ℤ x) (sym (at_column-other (basic t n) (neg_ℤ (number t n column *ℤ share n)) c other)) (le_refl (pos 0)))
    (cases_eq (basic t n) c) in
    omega (arith, linear)
