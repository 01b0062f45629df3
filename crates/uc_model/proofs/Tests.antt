-- What the tests over indexes say, as facts, and laws of the least value.
-- Cite from a crate above by `use Rattle.uc_model.proofs.Tests.{all_below-at}`.
use Rattle.std.proofs.Common.{◌≡◌, ℕ, zero, suc, ◌<◌, ⊎_elim, Bool, cond, refl, sym, subst, arith, ℤ, ◌≤ℤ◌, ◌<ℤ◌, IsTrue, int_le, int_lt}
use Rattle.std.specs.Int.{int_min}
use Rattle.std.specs.Ordering.{int_eq}
use Rattle.std.proofs.lemmas.Int.{ints}
use Rattle.std.proofs.lemmas.Bool.{and_parts, and_from, or_cases, or_left, or_right, cond-true, cond_both}
use Rattle.std.proofs.lemmas.Bool.Decides.{Decides-int_eq}
use Rattle.uc_model.specs.Prelude.{all_below, any_below, least_below}
use Rattle.uc_model.proofs.Sums.{below_or_last}

-- ---- tests of whole numbers
pub int_le-true : (a b : ℤ) → IsTrue (int_le a b) → a ≤ℤ b
int_le-true a b h = grind (arith, ints)

pub le-int_le : (a b : ℤ) → a ≤ℤ b → IsTrue (int_le a b)
le-int_le a b h = grind (arith, ints)

pub int_lt-true : (a b : ℤ) → IsTrue (int_lt a b) → a <ℤ b
int_lt-true a b h = grind (arith, ints)

pub lt-int_lt : (a b : ℤ) → a <ℤ b → IsTrue (int_lt a b)
lt-int_lt a b h = grind (arith, ints)

pub int_eq-true : (a b : ℤ) → IsTrue (int_eq a b) → a ≡ b
int_eq-true a b h = (Decides-int_eq a b).0 h

pub eq-int_eq : (a b : ℤ) → a ≡ b → IsTrue (int_eq a b)
eq-int_eq a b e = (Decides-int_eq a b).1 e

-- ---- a test of every index, and of some index
pub all_below-at : (n : ℕ) (test : ℕ → Bool) → IsTrue (all_below n test) → (k : ℕ) → k < n → IsTrue (test k)
all_below-at zero test h k l = absurd (omega arith)
all_below-at (suc n) test h k l =
    let parts = and_parts (test n) (all_below n test) h in
    ⊎_elim
    (λ (less : k < n). all_below-at n test parts.1 k less)
    (λ (last : k ≡ n). subst (λ i. IsTrue (test i)) (sym last) parts.0)
    (below_or_last n k l)

pub all_below-from : (n : ℕ) (test : ℕ → Bool) → ((k : ℕ) → k < n → IsTrue (test k)) → IsTrue (all_below n test)
all_below-from zero test h = refl
all_below-from (suc n) test h = and_from (test n) (all_below n test) (h n (omega arith)) (all_below-from n test (λ k l. h k (omega arith)))

pub any_below-at : (n : ℕ) (test : ℕ → Bool) → IsTrue (any_below n test) → (k : ℕ) × (k < n) × IsTrue (test k)
any_below-at zero test h = absurd (grind arith)
any_below-at (suc n) test h =
    ⊎_elim
    (λ (here : IsTrue (test n)). (n, omega arith, here))
    (λ (below : IsTrue (any_below n test)). let found = any_below-at n test below in (found.0, omega (arith, found.1), found.2))
    (or_cases (test n) (any_below n test) h)

pub any_below-from : (n : ℕ) (test : ℕ → Bool) (k : ℕ) → k < n → IsTrue (test k) → IsTrue (any_below n test)
any_below-from zero test k l h = absurd (omega arith)
any_below-from (suc n) test k l h =
    ⊎_elim
    (λ (less : k < n). or_right (test n) (any_below n test) (any_below-from n test k less h))
    (λ (last : k ≡ n). or_left (test n) (any_below n test) (subst (λ i. IsTrue (test i)) last h))
    (below_or_last n k l)

-- ---- the least value
pub int_min_left : (a b : ℤ) → int_min a b ≤ℤ a
int_min_left a b = grind (arith, ints)

pub int_min_right : (a b : ℤ) → int_min a b ≤ℤ b
int_min_right a b = grind (arith, ints)

step_left : (b : Bool) (x y : ℤ) → IsTrue b → cond b (int_min x y) y ≤ℤ x
step_left b x y h = subst (λ z. z ≤ℤ x) (sym (cond-true b (int_min x y) y h)) (int_min_left x y)

step_right : (b : Bool) (x y : ℤ) → cond b (int_min x y) y ≤ℤ y
step_right b x y = cond_both b (int_min x y) y (λ z. z ≤ℤ y) (λ e. int_min_right x y) (λ e. omega (arith, ints))

pub least_below-le-other : (n : ℕ) (test : ℕ → Bool) (f : ℕ → ℤ) (other : ℤ) → least_below n test f other ≤ℤ other
least_below-le-other zero test f other = omega (arith, ints)
least_below-le-other (suc n) test f other = grind (arith, ints, (least_below-le-other n test f other))

pub least_below-le : (n : ℕ) (test : ℕ → Bool) (f : ℕ → ℤ) (other : ℤ) (k : ℕ) → k < n → IsTrue (test k) → least_below n test f other ≤ℤ f k
least_below-le zero test f other k l h = absurd (omega arith)
least_below-le (suc n) test f other k l h =
    ⊎_elim
    (λ (less : k < n).
    omega (arith, ints, step_right (test n) (f n) (least_below n test f other), least_below-le n test f other k less h))
    (λ (last : k ≡ n).
    subst (λ i. least_below (suc n) test f other ≤ℤ f i) (sym last)
    (step_left (test n) (f n) (least_below n test f other) (subst (λ i. IsTrue (test i)) last h)))
    (below_or_last n k l)
