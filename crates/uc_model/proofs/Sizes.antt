-- The sizes of sums, differences, products, quotients and least numbers, and what the calls of
-- `arithmetic` give where the sizes of their numbers are known: they want that a number is as small as its
-- size, and answer what they name. Numbers that are passed by value stand there as their bits,
-- `to_z w (of_z w z)`, which are no greater in size.
-- Cite from a crate above by `use Rattle.uc_model.proofs.Sizes.{product-fits}`.
use Rattle.std.proofs.Common.{◌≡◌, ℕ, Bool, true, false, refl, ◌+◌, ◌*◌, ◌<◌, ◌≤◌, ◌^◌, sym, subst, ◌∙◌, arith, ℤ, pos, negsuc, ◌+ℤ◌, ◌-ℤ◌, ◌*ℤ◌, ◌<ℤ◌, ◌≤ℤ◌, to_z, of_z, unsigned_abs, nat_lt}
use mir.Val.{sel}
use Rattle.std.specs.Int.{w64, w128, int_min}
use Rattle.std.proofs.lemmas.Int.{ints, unsigned_abs-mul, to_z-of_z, fits_signed_from_abs, by_lt_z}
use Rattle.std.proofs.lemmas.Nat.{mul-le}
use Rattle.std.proofs.lemmas.Bool.{cond_both, ltb-false}
use Rattle.uc_model.specs.Prelude.{IsFloor}
use Rattle.uc_model.proofs.Ring.{linear, mul-one, one-mul, add-mul, mul-le-mul_left, mul-le-mul_turned}

-- ---- sizes
pub abs_add : (a b : ℤ) (m n : ℕ) → unsigned_abs a ≤ m → unsigned_abs b ≤ n → unsigned_abs (a +ℤ b) ≤ m + n
abs_add a b m n h k = omega (arith, ints)

pub abs_sub : (a b : ℤ) (m n : ℕ) → unsigned_abs a ≤ m → unsigned_abs b ≤ n → unsigned_abs (a -ℤ b) ≤ m + n
abs_sub a b m n h k = omega (arith, ints)

pub abs_mul : (a b : ℤ) (m n : ℕ) → unsigned_abs a ≤ m → unsigned_abs b ≤ n → unsigned_abs (a *ℤ b) ≤ m * n
abs_mul a b m n h k = subst (λ x. x ≤ m * n) (sym (unsigned_abs-mul a b)) (mul-le (unsigned_abs a) (unsigned_abs b) m n h k)

pub abs_min : (a b : ℤ) (m : ℕ) → unsigned_abs a ≤ m → unsigned_abs b ≤ m → unsigned_abs (int_min a b) ≤ m
abs_min a b m h k = cond_both _ b a (λ x. unsigned_abs x ≤ m) (λ e. k) (λ e. h)

-- ---- numbers of known size are what their bits say
pub wide : (z : ℤ) (m : ℕ) → unsigned_abs z ≤ m → m < 2 ^ 127 → to_z w128 (of_z w128 z) ≡ z
wide z m h k = to_z-of_z w128 z (fits_signed_from_abs w128 z (omega arith))

pub narrow : (z : ℤ) (m : ℕ) → unsigned_abs z ≤ m → m < 2 ^ 63 → to_z w64 (of_z w64 z) ≡ z
narrow z m h k = to_z-of_z w64 z (fits_signed_from_abs w64 z (omega arith))

-- the bits of any number are no greater in size than the number
chosen : (b : Bool) (x y : ℤ) (m : ℕ) → (b ≡ true → unsigned_abs x ≤ m) → (b ≡ false → unsigned_abs y ≤ m) → unsigned_abs (sel b x y) ≤ m
chosen true x y m h k = h refl
chosen false x y m h k = k refl

pub abs_wide : (z : ℤ) → unsigned_abs (to_z w128 (of_z w128 z)) ≤ unsigned_abs z
abs_wide (pos n) = chosen (nat_lt n (2 ^ 127)) _ _ n (λ e. omega arith) (λ e. omega (arith, ltb-false n (2 ^ 127) e))
abs_wide (negsuc n) = grind (arith, ints, n)

pub abs_narrow : (z : ℤ) → unsigned_abs (to_z w64 (of_z w64 z)) ≤ unsigned_abs z
abs_narrow (pos n) = chosen (nat_lt n (2 ^ 63)) _ _ n (λ e. omega arith) (λ e. omega (arith, ltb-false n (2 ^ 63) e))
abs_narrow (negsuc n) = grind (arith, ints, n)

pub wide-size : (z : ℤ) (m : ℕ) → unsigned_abs z ≤ m → unsigned_abs (to_z w128 (of_z w128 z)) ≤ m
wide-size z m h = omega (arith, abs_wide z)

-- a number of 64 bits as one of 128
pub from-size : (z r : ℤ) (m : ℕ) → r ≡ to_z w64 (of_z w64 z) → unsigned_abs z ≤ m → unsigned_abs r ≤ m
from-size z r m e h = subst (λ x. unsigned_abs x ≤ m) (sym e) (omega (arith, abs_narrow z))

-- ---- what the calls of `arithmetic` want
pub product-fits : (a b : ℤ) (m n : ℕ) → unsigned_abs a ≤ m → unsigned_abs b ≤ n → m * n < 2 ^ 127
    → unsigned_abs (to_z w128 (of_z w128 a)) * unsigned_abs (to_z w128 (of_z w128 b)) < 2 ^ 127
product-fits a b m n h k fits = omega (arith, mul-le _ _ m n (wide-size a m h) (wide-size b n k))

pub sum-fits : (a b : ℤ) (m n : ℕ) → unsigned_abs a ≤ m → unsigned_abs b ≤ n → m + n < 2 ^ 127
    → unsigned_abs (to_z w128 (of_z w128 a)) + unsigned_abs (to_z w128 (of_z w128 b)) < 2 ^ 127
sum-fits a b m n h k fits = omega (arith, wide-size a m h, wide-size b n k)

-- ---- how large their answers are, and what they are to a caller that answers them
pub product-size : (a b r : ℤ) (m n : ℕ) → r ≡ to_z w128 (of_z w128 a) *ℤ to_z w128 (of_z w128 b)
    → unsigned_abs a ≤ m → unsigned_abs b ≤ n → unsigned_abs r ≤ m * n
product-size a b r m n e h k = subst (λ x. unsigned_abs x ≤ m * n) (sym e) (abs_mul (to_z w128 (of_z w128 a)) (to_z w128 (of_z w128 b)) m n (wide-size a m h) (wide-size b n k))

pub sum-size : (a b r : ℤ) (m n : ℕ) → r ≡ to_z w128 (of_z w128 a) +ℤ to_z w128 (of_z w128 b)
    → unsigned_abs a ≤ m → unsigned_abs b ≤ n → unsigned_abs r ≤ m + n
sum-size a b r m n e h k = subst (λ x. unsigned_abs x ≤ m + n) (sym e) (abs_add (to_z w128 (of_z w128 a)) (to_z w128 (of_z w128 b)) m n (wide-size a m h) (wide-size b n k))

pub difference-size : (a b r : ℤ) (m n : ℕ) → r ≡ to_z w128 (of_z w128 a) -ℤ to_z w128 (of_z w128 b)
    → unsigned_abs a ≤ m → unsigned_abs b ≤ n → unsigned_abs r ≤ m + n
difference-size a b r m n e h k = subst (λ x. unsigned_abs x ≤ m + n) (sym e) (abs_sub (to_z w128 (of_z w128 a)) (to_z w128 (of_z w128 b)) m n (wide-size a m h) (wide-size b n k))

pub scaled-size : (a b r : ℤ) (m n : ℕ) → r ≡ to_z w64 (of_z w64 a) *ℤ to_z w64 (of_z w64 b)
    → unsigned_abs a ≤ m → unsigned_abs b ≤ n → unsigned_abs r ≤ m * n
scaled-size a b r m n e h k = grind (arith, ints, abs_mul, abs_narrow, e, h, k)

pub product-is : (a b r : ℤ) (m n : ℕ) → r ≡ to_z w128 (of_z w128 a) *ℤ to_z w128 (of_z w128 b)
    → unsigned_abs a ≤ m → unsigned_abs b ≤ n → m < 2 ^ 127 → n < 2 ^ 127 → r ≡ a *ℤ b
product-is a b r m n e h k p q = e ∙ (λ i. wide a m h p i *ℤ wide b n k q i)

pub sum-is : (a b r : ℤ) (m n : ℕ) → r ≡ to_z w128 (of_z w128 a) +ℤ to_z w128 (of_z w128 b)
    → unsigned_abs a ≤ m → unsigned_abs b ≤ n → m + n < 2 ^ 127 → r ≡ a +ℤ b
sum-is a b r m n e h k fits = e ∙ (λ i. wide a m h (omega arith) i +ℤ wide b n k (omega arith) i)

pub difference-is : (a b r : ℤ) (m n : ℕ) → r ≡ to_z w128 (of_z w128 a) -ℤ to_z w128 (of_z w128 b)
    → unsigned_abs a ≤ m → unsigned_abs b ≤ n → m + n < 2 ^ 127 → r ≡ a -ℤ b
difference-is a b r m n e h k fits = e ∙ (λ i. wide a m h (omega arith) i -ℤ wide b n k (omega arith) i)

-- ---- a floor is no greater in size than the number
pub floor-size : (n d q : ℤ) (m : ℕ) → pos 0 <ℤ d → IsFloor n d q → unsigned_abs n ≤ m → unsigned_abs q ≤ m
floor-size n d q m positive floor h = by_lt_z q (pos 0) below above
  where
    one_or_more : pos 1 ≤ℤ d
    one_or_more = omega (arith, linear)

    low : (q *ℤ d) ≤ℤ n
    low = floor.below

    high : n <ℤ (q *ℤ d +ℤ d)
    high = floor.next

    above : pos 0 ≤ℤ q → unsigned_abs q ≤ m
    above sign =
        let times : (q *ℤ pos 1) ≤ℤ (q *ℤ d) = mul-le-mul_left q (pos 1) d sign one_or_more in
        let same = mul-one q in
        let between : q ≤ℤ n = omega (arith, linear) in
        omega (arith, ints)

    below : q <ℤ pos 0 → unsigned_abs q ≤ m
    below sign =
        let times : ((q +ℤ pos 1) *ℤ d) ≤ℤ ((q +ℤ pos 1) *ℤ pos 1) = mul-le-mul_turned (q +ℤ pos 1) (pos 1) d (omega (arith, linear)) one_or_more in
        let same = mul-one (q +ℤ pos 1) in
        let spread_out = add-mul q (pos 1) d in
        let one = one-mul d in
        let between : n ≤ℤ q = omega (arith, linear) in
        omega (arith, ints)
