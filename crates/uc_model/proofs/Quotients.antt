-- Laws of floor and ceiling, `IsFloor a b n` and `IsCeiling a b n`, for a positive b.
-- Cite from a crate above by `use Rattle.uc_model.proofs.Quotients.{IsFloor-greatest}`.
use Rattle.std.proofs.Common.{◌≡◌, ◌≢◌, arith, ℤ, pos, negsuc, ◌+ℤ◌, ◌*ℤ◌, neg_ℤ, ◌≤ℤ◌, ◌<ℤ◌}
use Rattle.std.specs.Int.{int_div_euclid, int_rem_euclid}
use Rattle.std.proofs.lemmas.Int.{ints, by_lt_z}
use Rattle.uc_model.specs.Prelude.{IsFloor, IsCeiling, quotient_up}
use Rattle.uc_model.proofs.Ring.{linear, add-mul, neg-mul, one-mul, mul-le-mul_right, le_antisymm}

-- ---- a bound by a multiple
-- from m * b < n * b + b it follows that m ≤ n
below_next : (b m n : ℤ) → pos 0 <ℤ b → (m *ℤ b) <ℤ (n *ℤ b +ℤ b) → m ≤ℤ n
below_next b m n positive less = by_lt_z n m (λ above. absurd (apart above)) (λ le. le)
  where
    apart : n <ℤ m → ⊥
    apart above =
        let nonneg : pos 0 ≤ℤ b = omega (arith, linear) in
        let next : (n +ℤ pos 1) ≤ℤ m = omega (arith, linear) in
        let times = simp (add-mul, one-mul) at (mul-le-mul_right b (n +ℤ pos 1) m nonneg next) in
        omega (arith, linear)

-- ---- the floor
-- each whole number at most a / b is at most the floor
pub IsFloor-greatest : (a b n m : ℤ) → pos 0 <ℤ b → IsFloor a b n → (m *ℤ b) ≤ℤ a → m ≤ℤ n
IsFloor-greatest a b n m positive floor le = below_next b m n positive (omega (arith, linear))

-- there is one floor
pub IsFloor_unique : (a b m n : ℤ) → pos 0 <ℤ b → IsFloor a b m → IsFloor a b n → m ≡ n
IsFloor_unique a b m n positive floor other =
    le_antisymm m n (IsFloor-greatest a b n m positive other floor.below) (IsFloor-greatest a b m n positive floor other.below)

pub IsFloor-int_div_euclid : (a b : ℤ) → pos 0 <ℤ b → IsFloor a b (int_div_euclid a b)
IsFloor-int_div_euclid (pos a) (pos b) positive = omega (arith, ints)
IsFloor-int_div_euclid (negsuc a) (pos b) positive = omega (arith, ints)
IsFloor-int_div_euclid a (negsuc b) positive = absurd (omega (arith, linear))

-- m times b more is m more
pub IsFloor-add : (a b n m : ℤ) → IsFloor a b n → IsFloor (a +ℤ m *ℤ b) b (n +ℤ m)
IsFloor-add a b n m floor = record { below = simp add-mul (omega (arith, linear)); next = simp add-mul (omega (arith, linear)) }

-- ---- the ceiling
-- the ceiling of a / b is the floor of -a / b, negated, and the other way round
pub IsCeiling-neg : (a b n : ℤ) → IsFloor a b n → IsCeiling (neg_ℤ a) b (neg_ℤ n)
IsCeiling-neg a b n floor = record { above = simp neg-mul (omega (arith, linear)); before = simp neg-mul (omega (arith, linear)) }

-- each whole number at least a / b is at least the ceiling
pub IsCeiling-least : (a b n m : ℤ) → pos 0 <ℤ b → IsCeiling a b n → a ≤ℤ (m *ℤ b) → n ≤ℤ m
IsCeiling-least a b n m positive ceiling le = below_next b n m positive (omega (arith, linear))

-- there is one ceiling
pub IsCeiling_unique : (a b m n : ℤ) → pos 0 <ℤ b → IsCeiling a b m → IsCeiling a b n → m ≡ n
IsCeiling_unique a b m n positive ceiling other =
    le_antisymm m n (IsCeiling-least a b m n positive ceiling other.above) (IsCeiling-least a b n m positive other ceiling.above)

-- ---- both
-- ---- the Euclidean quotient and remainder
-- the ceiling is the quotient where the remainder is 0
pub IsCeiling-int_div_euclid : (a b : ℤ) → pos 0 <ℤ b → int_rem_euclid a b ≡ pos 0 → IsCeiling a b (int_div_euclid a b)
IsCeiling-int_div_euclid a b positive none = grind (arith, ints, positive, none)

-- and else one more
pub IsCeiling-int_div_euclid_next : (a b : ℤ) → pos 0 <ℤ b → int_rem_euclid a b ≢ pos 0 → IsCeiling a b (int_div_euclid a b +ℤ pos 1)
IsCeiling-int_div_euclid_next a b positive some = grind (arith, ints, positive, some)

-- ---- the quotient rounded up, as a number
pub quotient_up-is : (a b : ℤ) → pos 0 <ℤ b → IsCeiling a b (quotient_up a b)
quotient_up-is a b positive = grind (arith, ints, positive)

-- over 1 it is the number itself
pub quotient_up-one : (a : ℤ) → quotient_up a (pos 1) ≡ a
quotient_up-one a = grind (arith, ints)
