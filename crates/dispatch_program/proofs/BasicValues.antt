-- The values that a basis gives, column by column: a basic column's is its row's worth.
-- Cite by `use Rattle.dispatch_program.proofs.BasicValues.{value_basic}`.
use Rattle.std.proofs.Common.{◌≡◌, ◌≢◌, ℕ, zero, suc, ◌<◌, ◌==◌, ⊎_elim, refl, sym, ap, subst, ◌∙◌, arith, length, if◌then◌else◌, ℤ, pos, ◌+ℤ◌, ◌*ℤ◌, neg_ℤ, ◌≤ℤ◌, ◌<ℤ◌}
use Rattle.std.proofs.lemmas.Bool.{cases_eq, cond_both, eqb-true, eq-eqb, true≢false}
use Rattle.std.proofs.lemmas.Int.{by_lt_z}
use Rattle.uc_model.specs.Prelude.{sum_below}
use Rattle.uc_model.proofs.Common.{linear, le_refl, mul_left_comm, mul_nonneg, mul-zero, mul-neg, mul-lt-mul_left, sum_below-zero, sum_below-single, sum_below_nonneg}
use Rattle.pivot_run.specs.Prelude.{IsBasic, Table, basic, number, at_column, values_of}
use Rattle.pivot_run.proofs.Values.{at_column-nonneg}
use Rattle.dispatch_program.specs.Prelude.{AreShares, SharesExist}

-- ---- a value in one column
pub at_own : (a : ℕ) (z : ℤ) → at_column a z a ≡ z
at_own zero z = refl
at_own (suc a) z = at_own a z

pub at_other : (a : ℕ) (z : ℤ) (c : ℕ) → a ≢ c → at_column a z c ≡ pos 0
at_other zero z zero other = absurd (other refl)
at_other zero z (suc c) other = refl
at_other (suc a) z zero other = refl
at_other (suc a) z (suc c) other = at_other a z c (λ e. other (ap suc e))

-- ---- the values
module _ (t : Table) (basis : IsBasic t) (column : ℕ) (whole : ℤ) (share : ℕ → ℤ) where
  -- what a row's basic column has of them
  abbrev worth : ℕ → ℤ
  worth k = neg_ℤ (number t k column *ℤ share k)

  abbrev values : ℕ → ℤ
  values = values_of t column whole share (length t.rows)

  value_is : (n c : ℕ) → values_of t column whole share n c ≡ sum_below n (λ k. at_column (basic t k) (worth k) c) +ℤ at_column column whole c
  value_is zero c = omega (arith, linear)
  value_is (suc n) c = let before = value_is n c in omega (arith, linear)

  -- a column that is basic in no row but such as leave it nothing
  pub value_none : (c : ℕ) → ((k : ℕ) → k < length t.rows → basic t k ≡ c → worth k ≡ pos 0) → values c ≡ at_column column whole c
  value_none c none =
      let all = value_is (length t.rows) c in
      let rest = sum_below-zero (length t.rows) (λ k. at_column (basic t k) (worth k) c) (λ k l. ⊎_elim
      (λ (same : basic t k ≡ c). ap (λ b. at_column b (worth k) c) same ∙ at_own c (worth k) ∙ none k l same)
      (λ (other : basic t k ≢ c). at_other (basic t k) (worth k) c other)
      (cases_eq (basic t k) c)) in
      omega (arith, linear)

  -- two rows don't share a basic column
  pub two_columns : (k l : ℕ) → k < length t.rows → l < length t.rows → k ≢ l → basic t k ≢ basic t l
  two_columns k l h m other same =
      let own = basis.own l m in
      let none : number t l (basic t l) ≡ pos 0 = ap (number t l) (sym same) ∙ basis.others k l h m (λ e. other (sym e)) in
      absurd (omega (arith, linear))

  pub value_basic : (l : ℕ) → l < length t.rows → values (basic t l) ≡ worth l +ℤ at_column column whole (basic t l)
  value_basic l h =
      let all = value_is (length t.rows) (basic t l) in
      let single = sum_below-single (length t.rows) (λ k. at_column (basic t k) (worth k) (basic t l)) l h
      (λ k m other. at_other (basic t k) (worth k) (basic t l) (two_columns k l m h other)) in
      let own = at_own (basic t l) (worth l) in
      omega (arith, linear)

  -- the rows add no less than 0
  pub value_low : (c : ℕ) → ((k : ℕ) → k < length t.rows → basic t k ≡ c → pos 0 ≤ℤ worth k) → at_column column whole c ≤ℤ values c
  value_low c each =
      let all = value_is (length t.rows) c in
      let rest = sum_below_nonneg (length t.rows) (λ k. at_column (basic t k) (worth k) c) (λ k l. ⊎_elim
      (λ (same : basic t k ≡ c). at_column-nonneg (basic t k) (worth k) c (each k l same))
      (λ (other : basic t k ≢ c). subst (λ z. pos 0 ≤ℤ z) (sym (at_other (basic t k) (worth k) c other)) (le_refl (pos 0)))
      (cases_eq (basic t k) c)) in
      omega (arith, linear)

-- ---- shares
pub share_positive : (t : Table) (d : ℤ) (share : ℕ → ℤ) → IsBasic t → AreShares t d share → (k : ℕ) → k < length t.rows → pos 0 <ℤ share k
share_positive t d share basis are k h = positive_factor (number t k (basic t k)) (share k) d (basis.own k h) are.denominator (are.whole k h)
  where
    positive_factor : (a s d : ℤ) → pos 0 <ℤ a → pos 0 <ℤ d → a *ℤ s ≡ d → pos 0 <ℤ s
    positive_factor a s d h l e = by_lt_z (pos 0) s (λ more. more)
        (λ less.
        let most = mul_nonneg a (neg_ℤ s) (omega (arith, linear)) (omega (arith, linear)) in
        let turned = mul-neg a s in
        absurd (omega (arith, linear)))

-- the product of the numbers in the basic columns has shares
shares_below : (number_of : ℕ → ℤ) (n : ℕ) → ((k : ℕ) → k < n → pos 0 <ℤ number_of k)
    → (d : ℤ) × (share : ℕ → ℤ) × (pos 0 <ℤ d) × ((k : ℕ) → k < n → number_of k *ℤ share k ≡ d)
shares_below a zero above = (pos 1, λ k. pos 0, omega (arith, linear), λ k h. absurd (omega arith))
shares_below a (suc n) above =
    let before = shares_below a n (λ k h. above k (omega arith)) in
    let d = before.0 in
    let share = before.1 in
    let last = above n (omega arith) in
    let product = mul-lt-mul_left (a n) (pos 0) d last before.2 in
    let none = mul-zero (a n) in (
      a n *ℤ d,
      λ k. if k == n then d else a n *ℤ share k,
      omega (arith, linear),
      λ k h. cond_both (k == n) d (a n *ℤ share k) (λ s. a k *ℤ s ≡ a n *ℤ d)
          (λ e. ap (λ m. a m *ℤ d) (eqb-true k n e))
          (λ e. mul_left_comm (a k) (a n) (share k) ∙ ap (λ z. a n *ℤ z) (before.3 k (let apart : k ≢ n = λ same. true≢false (sym (eq-eqb k n same) ∙ e) in omega arith))),
    )

pub shares_exist : SharesExist
shares_exist t basis =
    let found = shares_below (λ k. number t k (basic t k)) (length t.rows) basis.own in
    (found.0, found.1, record { denominator = found.2; whole = found.3 })
