-- Laws of the finite sum f(0) + .. + f(n - 1), `sum_below n f`.
-- Cite from a crate above by `use Rattle.uc_model.proofs.Sums.{sum_below-add}`. A premise over the places comes as
-- `(k : ℕ) → k < n → ..`, and the number of places first.
use Rattle.std.proofs.Common.{◌≡◌, ℕ, zero, suc, ◌+◌, ◌<◌, ◌≢◌, ◌⊎◌, ⊎_elim, refl, sym, ap, subst, ◌∙◌, arith, ℤ, pos, ◌+ℤ◌, ◌-ℤ◌, ◌*ℤ◌, neg_ℤ, ◌≤ℤ◌}
use Rattle.uc_model.specs.Prelude.{sum_below}
use Rattle.uc_model.proofs.Ring.{linear, add-le-add, le_refl, mul-add, add-mul, mul-zero, zero-mul, suc-mul}

-- a place below n + 1
pub below_or_last : (n k : ℕ) → k < suc n → (k < n) ⊎ (k ≡ n)
below_or_last n k l = grind arith

-- equal terms give equal sums
pub sum_below-same : (n : ℕ) (f g : ℕ → ℤ) → ((k : ℕ) → k < n → f k ≡ g k) → sum_below n f ≡ sum_below n g
sum_below-same zero f g e = refl
sum_below-same (suc n) f g e = λ i. sum_below-same n f g (λ k h. e k (omega arith)) i +ℤ e n (omega arith) i

-- the sum of zeros
pub sum_below-zero : (n : ℕ) (f : ℕ → ℤ) → ((k : ℕ) → k < n → f k ≡ pos 0) → sum_below n f ≡ pos 0
sum_below-zero zero f e = refl
sum_below-zero (suc n) f e = λ i. sum_below-zero n f (λ k h. e k (omega arith)) i +ℤ e n (omega arith) i

-- ---- it is linear
pub sum_below-add : (n : ℕ) (f g : ℕ → ℤ) → sum_below n (λ k. f k +ℤ g k) ≡ sum_below n f +ℤ sum_below n g
sum_below-add zero f g = refl
sum_below-add (suc n) f g = let before = sum_below-add n f g in omega (arith, linear)

pub sum_below-neg : (n : ℕ) (f : ℕ → ℤ) → sum_below n (λ k. neg_ℤ (f k)) ≡ neg_ℤ (sum_below n f)
sum_below-neg zero f = refl
sum_below-neg (suc n) f = let before = sum_below-neg n f in omega (arith, linear)

pub sum_below-sub : (n : ℕ) (f g : ℕ → ℤ) → sum_below n (λ k. f k -ℤ g k) ≡ sum_below n f -ℤ sum_below n g
sum_below-sub zero f g = refl
sum_below-sub (suc n) f g = let before = sum_below-sub n f g in omega (arith, linear)

pub sum_below-mul_left : (n : ℕ) (q : ℤ) (f : ℕ → ℤ) → sum_below n (λ k. q *ℤ f k) ≡ q *ℤ sum_below n f
sum_below-mul_left zero q f = sym (mul-zero q)
sum_below-mul_left (suc n) q f = ap (λ x. x +ℤ q *ℤ f n) (sum_below-mul_left n q f) ∙ sym (mul-add q (sum_below n f) (f n))

pub sum_below-mul_right : (n : ℕ) (f : ℕ → ℤ) (q : ℤ) → sum_below n (λ k. f k *ℤ q) ≡ sum_below n f *ℤ q
sum_below-mul_right zero f q = sym (zero-mul q)
sum_below-mul_right (suc n) f q = ap (λ x. x +ℤ f n *ℤ q) (sum_below-mul_right n f q) ∙ sym (add-mul (sum_below n f) (f n) q)

-- ---- its order
pub sum_below-le : (n : ℕ) (f g : ℕ → ℤ) → ((k : ℕ) → k < n → f k ≤ℤ g k) → sum_below n f ≤ℤ sum_below n g
sum_below-le zero f g h = le_refl (pos 0)
sum_below-le (suc n) f g h =
    add-le-add (sum_below n f) (sum_below n g) (f n) (g n) (sum_below-le n f g (λ k l. h k (omega arith))) (h n (omega arith))

pub sum_below_nonneg : (n : ℕ) (f : ℕ → ℤ) → ((k : ℕ) → k < n → pos 0 ≤ℤ f k) → pos 0 ≤ℤ sum_below n f
sum_below_nonneg n f h = subst (λ x. x ≤ℤ sum_below n f) (sum_below-zero n (λ k. pos 0) (λ k l. refl)) (sum_below-le n (λ k. pos 0) f h)

-- a term of a sum of terms that are not negative is at most the sum
pub term-le-sum_below : (n : ℕ) (f : ℕ → ℤ) (k : ℕ) → k < n → ((j : ℕ) → j < n → pos 0 ≤ℤ f j) → f k ≤ℤ sum_below n f
term-le-sum_below zero f k l h = absurd (omega arith)
term-le-sum_below (suc n) f k l h =
    let more : pos 0 ≤ℤ f n = h n (omega arith) in
    let rest : pos 0 ≤ℤ sum_below n f = sum_below_nonneg n f (λ j m. h j (omega arith)) in
    ⊎_elim
    (λ (less : k < n). let earlier = term-le-sum_below n f k less (λ j m. h j (omega arith)) in omega (arith, linear))
    (λ (last : k ≡ n). let same = ap f last in omega (arith, linear))
    (below_or_last n k l)

-- ---- its parts
-- cut at a place
pub sum_below-split : (m n : ℕ) (f : ℕ → ℤ) → sum_below (m + n) f ≡ sum_below m f +ℤ sum_below n (λ k. f (m + k))
sum_below-split m zero f = grind (arith, linear)
sum_below-split m (suc n) f =
    let next : m + suc n ≡ suc (m + n) = omega arith in
    let before = sum_below-split m n f in
    ap (λ k. sum_below k f) next ∙ omega (arith, linear)

-- the first term stands apart
pub sum_below-first : (n : ℕ) (f : ℕ → ℤ) → sum_below (suc n) f ≡ f 0 +ℤ sum_below n (λ k. f (suc k))
sum_below-first zero f = omega (arith, linear)
sum_below-first (suc n) f = let before = sum_below-first n f in omega (arith, linear)

-- a single term that is not 0
pub sum_below-single : (n : ℕ) (f : ℕ → ℤ) (k : ℕ) → k < n → ((j : ℕ) → j < n → j ≢ k → f j ≡ pos 0) → sum_below n f ≡ f k
sum_below-single zero f k l e = absurd (omega arith)
sum_below-single (suc n) f k l e = ⊎_elim
    (λ (less : k < n).
    let earlier = sum_below-single n f k less (λ j m other. e j (omega arith) other) in
    let none : f n ≡ pos 0 = e n (omega arith) (omega arith) in
    omega (arith, linear))
    (λ (last : k ≡ n).
    let earlier : sum_below n f ≡ pos 0 = sum_below-zero n f (λ j m. e j (omega arith) (omega arith)) in
    let same = ap f last in
    omega (arith, linear))
    (below_or_last n k l)

-- two terms that are not 0
pub sum_below-pair : (n : ℕ) (f : ℕ → ℤ) (i j : ℕ) → i < n → j < n → i ≢ j
    → ((k : ℕ) → k < n → k ≢ i → k ≢ j → f k ≡ pos 0) → sum_below n f ≡ f i +ℤ f j
sum_below-pair zero f i j h l apart none = absurd (omega arith)
sum_below-pair (suc n) f i j h l apart none = ⊎_elim
    (λ (before : i < n).
    ⊎_elim
    (λ (less : j < n).
    let earlier = sum_below-pair n f i j before less apart (λ k m. none k (omega arith)) in
    let rest : f n ≡ pos 0 = none n (omega arith) (omega arith) (omega arith) in
    omega (arith, linear))
    (λ (last : j ≡ n).
    let first = sum_below-single n f i before (λ k m other. none k (omega arith) other (omega arith)) in
    let same = ap f last in
    omega (arith, linear))
    (below_or_last n j l))
    (λ (end : i ≡ n).
    let second = sum_below-single n f j (omega arith) (λ k m other. none k (omega arith) (omega arith) other) in
    let same = ap f end in
    omega (arith, linear))
    (below_or_last n i h)

-- two sums change places
pub sum_below-swap : (m n : ℕ) (f : ℕ → ℕ → ℤ) → sum_below m (λ i. sum_below n (λ j. f i j)) ≡ sum_below n (λ j. sum_below m (λ i. f i j))
sum_below-swap zero n f = sym (sum_below-zero n (λ j. pos 0) (λ j l. refl))
sum_below-swap (suc m) n f =
    ap (λ x. x +ℤ sum_below n (λ j. f m j)) (sum_below-swap m n f)
    ∙ sym (sum_below-add n (λ j. sum_below m (λ i. f i j)) (λ j. f m j))

-- the sum of one number, n times
pub sum_below-const : (n : ℕ) (a : ℤ) → sum_below n (λ k. a) ≡ pos n *ℤ a
sum_below-const zero a = sym (zero-mul a)
sum_below-const (suc n) a = ap (λ x. x +ℤ a) (sum_below-const n a) ∙ sym (suc-mul n a)
