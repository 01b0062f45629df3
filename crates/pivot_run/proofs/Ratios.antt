-- The row that leaves has the least ratio, and a pivot on it keeps the right sides at 0 or above.
-- Cite by `use Rattle.pivot_run.proofs.Ratios.{leaving_least}`.
use Rattle.std.proofs.Common.{◌≡◌, ℕ, zero, suc, ◌<◌, ◌≤◌, ⊎_elim, true, false, Option, None, Some, ap, subst, ◌∙◌, arith, ℤ, pos, ◌*ℤ◌, ◌≤ℤ◌, ◌<ℤ◌, int_lt}
use Rattle.std.proofs.lemmas.Bool.{cases_lt}
use Rattle.pivot_run.specs.Prelude.{Table, number, right_side, leaves_before, foremost, leaving}
use Rattle.uc_model.proofs.Common.{linear, mul_comm, mul_assoc, mul_left_comm, mul-le-mul_left, mul-le-mul_right, le_from_mul}
use Rattle.pivot_run.proofs.Orders.{int_lt-true, int_lt-false}

-- with three ratios b over a, of positive numbers a: the least of the first two, which is at most the third
ratio_trans : (b a c d e f : ℤ) → pos 0 <ℤ a → pos 0 <ℤ d → pos 0 <ℤ f → (b *ℤ d) ≤ℤ (c *ℤ a) → (c *ℤ f) ≤ℤ (e *ℤ d) → (b *ℤ f) ≤ℤ (e *ℤ a)
ratio_trans b a c d e f first second third h k =
    let left : ((b *ℤ d) *ℤ f) ≤ℤ ((c *ℤ a) *ℤ f) = mul-le-mul_right f (b *ℤ d) (c *ℤ a) (omega (arith, linear)) h in
    let right : (a *ℤ (c *ℤ f)) ≤ℤ (a *ℤ (e *ℤ d)) = mul-le-mul_left a (c *ℤ f) (e *ℤ d) (omega (arith, linear)) k in
    let one : (b *ℤ d) *ℤ f ≡ d *ℤ (b *ℤ f) = ap (λ x. x *ℤ f) (mul_comm b d) ∙ mul_assoc d b f in
    let two : (c *ℤ a) *ℤ f ≡ a *ℤ (c *ℤ f) = ap (λ x. x *ℤ f) (mul_comm c a) ∙ mul_assoc a c f in
    let three : a *ℤ (e *ℤ d) ≡ d *ℤ (e *ℤ a) = ap (λ x. a *ℤ x) (mul_comm e d) ∙ mul_left_comm a d e ∙ ap (λ x. d *ℤ x) (mul_comm a e) in
    le_from_mul d (b *ℤ f) (e *ℤ a) second (omega (arith, linear))

-- row i has a number above 0 in column j, and the least ratio of the first n rows that have one
pub record IsLeast (t : Table) (j n i : ℕ) : Type 0 where
  pub within : i < n
  pub positive : pos 0 <ℤ number t i j
  pub least : (k : ℕ) → k < n → pos 0 <ℤ number t k j → (right_side t i *ℤ number t k j) ≤ℤ (right_side t k *ℤ number t i j)

-- no row of the first n has one, or the row is the least
abbrev pub IsLeaving : Table → ℕ → ℕ → Option ℕ → Type 0
IsLeaving t j n None = (k : ℕ) → k < n → number t k j ≤ℤ pos 0
IsLeaving t j n (Some i) = IsLeast t j n i

-- what the comparison says
before-true : (own other : ℤ) (k i : ℕ) → leaves_before own other k i ≡ true → own ≤ℤ other
before-true own other k i h = grind (arith, linear, h)

before-false : (own other : ℤ) (k i : ℕ) → leaves_before own other k i ≡ false → other ≤ℤ own
before-false own other k i h = grind (arith, linear, h)

-- a row joins those before it
least_kept : (t : Table) (j n i : ℕ) → IsLeast t j n i → (pos 0 <ℤ number t n j → (right_side t i *ℤ number t n j) ≤ℤ (right_side t n *ℤ number t i j)) → IsLeast t j (suc n) i
least_kept t j n i is last = grind (arith, linear, is, last)

least_new : (t : Table) (j n i : ℕ) → IsLeast t j n i → pos 0 <ℤ number t n j → (right_side t n *ℤ number t i j) ≤ℤ (right_side t i *ℤ number t n j) → IsLeast t j (suc n) n
least_new t j n i is positive before = record {
  within = omega arith;
  positive = positive;
  least = λ k l h. ⊎_elim
      (λ (less : k < n). ratio_trans (right_side t n) (number t n j) (right_side t i) (number t i j) (right_side t k) (number t k j)
      positive is.positive h before (is.least k less h))
      (λ (most : n ≤ k). let same : n ≡ k = omega arith in
      subst (λ m. (right_side t n *ℤ number t m j) ≤ℤ (right_side t m *ℤ number t n j)) same (omega (arith, linear)))
      (cases_lt k n);
}

least_alone : (t : Table) (j n : ℕ) → ((k : ℕ) → k < n → number t k j ≤ℤ pos 0) → pos 0 <ℤ number t n j → IsLeast t j (suc n) n
least_alone t j n none positive = grind (arith, linear, none, positive)

foremost_least : (t : Table) (j n : ℕ) (found : Option ℕ) → IsLeaving t j n found → pos 0 <ℤ number t n j → IsLeast t j (suc n) (foremost t j n found)
foremost_least t j n None is positive = least_alone t j n is positive
foremost_least t j n (Some i) is positive = grind (arith, linear, least_new, before-true, least_kept, before-false, i, is, positive)

not_kept : (t : Table) (j n : ℕ) (found : Option ℕ) → IsLeaving t j n found → number t n j ≤ℤ pos 0 → IsLeaving t j (suc n) found
not_kept t j n None is nought = grind (arith, linear, is, nought)
not_kept t j n (Some i) is nought = least_kept t j n i is (λ h. absurd (omega (arith, linear)))

pub leaving_is : (t : Table) (j n : ℕ) → IsLeaving t j n (leaving t j n)
leaving_is t j zero = λ k h. absurd (omega arith)
leaving_is t j (suc n) = grind (arith, linear, int_lt, foremost_least, int_lt-true, not_kept, int_lt-false, (leaving_is t j n))
