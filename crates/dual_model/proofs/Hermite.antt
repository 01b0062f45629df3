-- Hermite's identity: the floors of (p + j)/q over the j below q add up to p, and what is summed up to each of them
-- adds up too.
-- Source: Graham, Knuth and Patashnik, Concrete Mathematics, section 3.4.
-- Cite from a crate above by `use Rattle.dual_model.proofs.Hermite.{counted, floors}`.
use Rattle.std.proofs.Common.{◌≡◌, ℕ, zero, suc, ◌+◌, ◌/◌, ◌<◌, ◌≤◌, sym, ap, ◌∙◌, arith, ℤ, pos, ◌+ℤ◌, ◌-ℤ◌, ◌*ℤ◌, ◌≤ℤ◌}
use Rattle.std.proofs.lemmas.Nat.{div-mul-add}
use Rattle.uc_model.specs.Prelude.{sum_below, IsFloor}
use Rattle.uc_model.proofs.Common.{linear, mul_comm, mul-one, sum_below-same, sum_below-zero, sum_below-first, sum_below-const, IsFloor-greatest, IsFloor-add}

-- ---- quotients
-- numbers below q, and the quotient by 1
pub small : (j q : ℕ) → j < q → j / q ≡ 0
small j q h = ap (λ n. n / q) (omega arith) ∙ div-mul-add 0 q j h

pub small_sum : (j q : ℕ) → j < q → (0 + j) / q ≡ 0
small_sum j q h = ap (λ n. n / q) (omega arith) ∙ small j q h

pub div_one : (n : ℕ) → n / 1 ≡ n
div_one n = ap (λ m. m / 1) (omega arith) ∙ div-mul-add n 1 0 (omega arith)

div_next : (p q : ℕ) → 0 < q → (p + q) / q ≡ suc (p / q)
div_next p q some = grind (arith, linear, some)

-- ---- sums
-- what is summed up to the floors of (p + j)/q is what is summed at the floors of y/q below p
pub counted : (q p : ℕ) (f : ℕ → ℤ) → 0 < q → sum_below q (λ j. sum_below ((p + j) / q) f) ≡ sum_below p (λ y. f (y / q))
counted q zero f some = grind (arith, linear, sum_below-zero, small_sum, some)
counted q (suc p) f some =
    let up = λ (j : ℕ). sum_below ((p + j) / q) f in
    let first = sum_below-first q up in
    let before = counted q p f some in
    let moved : sum_below q (λ j. sum_below ((suc p + j) / q) f) ≡ sum_below q (λ j. up (suc j)) =
    sum_below-same q _ (λ j. up (suc j)) (λ j l. ap (λ n. sum_below (n / q) f) (omega arith)) in
    let last : up q ≡ sum_below (p / q) f +ℤ f (p / q) = ap (λ n. sum_below n f) (div_next p q some) in
    let start : up 0 ≡ sum_below (p / q) f = ap (λ n. sum_below (n / q) f) (omega arith) in
    omega (arith, linear, first, before, moved, last, start)

ones : (n : ℕ) → sum_below n (λ k. pos 1) ≡ pos n
ones n = sum_below-const n (pos 1) ∙ mul-one (pos n)

-- the floors add up
pub floors : (q p : ℕ) → 0 < q → sum_below q (λ j. pos ((p + j) / q)) ≡ pos p
floors q p some =
    sum_below-same q _ (λ j. sum_below ((p + j) / q) (λ k. pos 1)) (λ j l. sym (ones ((p + j) / q)))
    ∙ counted q p (λ k. pos 1) some
    ∙ ones p

-- ---- orders
nat_floor : (m q : ℕ) → 0 < q → IsFloor (pos m) (pos q) (pos (m / q))
nat_floor m q some = grind (arith, linear, some)

-- a limit on a difference is kept by the floors
pub difference : (q a b j : ℕ) (c : ℤ) → 0 < q → (pos a -ℤ pos b) ≤ℤ (pos q *ℤ c) → (pos ((a + j) / q) -ℤ pos ((b + j) / q)) ≤ℤ c
difference q a b j c some h =
    let own = nat_floor (a + j) q some in
    let other = IsFloor-add (pos (b + j)) (pos q) (pos ((b + j) / q)) c (nat_floor (b + j) q some) in
    let order = mul_comm c (pos q) in
    let below = own.below in
    let most : (pos ((a + j) / q) *ℤ pos q) ≤ℤ (pos (b + j) +ℤ c *ℤ pos q) = omega (arith, linear, below, order, h) in
    let found = IsFloor-greatest _ (pos q) _ (pos ((a + j) / q)) (omega (arith, linear)) other most in
    omega (arith, linear, found)

-- and one on a number
pub above_none : (q a j : ℕ) (c : ℤ) → 0 < q → j < q → pos a ≤ℤ (pos q *ℤ c) → pos ((a + j) / q) ≤ℤ c
above_none q a j c some within h = grind (arith, linear, some, within, h)

-- and one from below
pub below_floor : (q a j : ℕ) (c : ℤ) → 0 < q → (pos q *ℤ c) ≤ℤ pos a → c ≤ℤ pos ((a + j) / q)
below_floor q a j c some h =
    let order = mul_comm c (pos q) in
    IsFloor-greatest _ (pos q) _ c (omega (arith, linear)) (nat_floor (a + j) q some) (omega (arith, linear, order, h))

-- the floors keep the order
pub floor_mono : (q a b : ℕ) → 0 < q → a ≤ b → a / q ≤ b / q
floor_mono q a b some h = grind (arith, linear, some, h)
