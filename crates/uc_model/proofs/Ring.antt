-- The whole numbers ℤ as an ordered commutative ring, for proofs by hand: there is no tactic for rings.
-- Cite from a crate above by `use Rattle.uc_model.proofs.Ring.{spread, linear}`.
--     linear      for `omega`: sums, differences, negations and orders on ℤ. A product stays an atom.
--     spread      for `simp`: a product of sums and negations becomes a sum of products of atoms.
-- `simp spread (omega (arith, linear))` closes what is linear once the products are spread. Where a product stands with its
-- factors in two orders, add `mul_comm a b` to `omega`'s list. A fact that is to be multiplied is a `let` by `simp spread at`.
use Rattle.std.proofs.Common.{◌≡◌, ℕ, suc, ◌*◌, ◌≤◌, ◌⊎◌, inl, inr, refl, sym, ap, subst, ◌∙◌, arith, ℤ, pos, negsuc, ◌+ℤ◌, ◌-ℤ◌, ◌*ℤ◌, neg_ℤ, ◌≤ℤ◌, ◌<ℤ◌}
use borrow.Author.Differences.{up, down, same_out, lt_out, le_out, same_in, at_most_in, below_in, sum_is_lem, neg_is, product_is}
use Rattle.std.proofs.lemmas.Int.{by_lt_z}

-- Linear facts over ℤ: a number z is read as `up z - down z`, and a product is left alone.
pub ruleset linear = (same_out, lt_out, le_out, same_in, at_most_in, below_in, sum_is_lem, neg_is)

-- The same with the definition of the product, for the laws of this file.
ruleset parts = (linear, product_is)

-- ---- the sum
pub add-zero : (a : ℤ) → a +ℤ pos 0 ≡ a
add-zero a = omega (arith, linear)

-- ---- the product
pub mul_comm : (a b : ℤ) → a *ℤ b ≡ b *ℤ a
mul_comm a b = omega (arith, parts)

pub mul-zero : (a : ℤ) → a *ℤ pos 0 ≡ pos 0
mul-zero a = omega (arith, parts)

pub zero-mul : (a : ℤ) → pos 0 *ℤ a ≡ pos 0
zero-mul a = omega (arith, parts)

pub mul-one : (a : ℤ) → a *ℤ pos 1 ≡ a
mul-one a = omega (arith, parts)

pub one-mul : (a : ℤ) → pos 1 *ℤ a ≡ a
one-mul a = omega (arith, parts)

pub mul-neg : (a b : ℤ) → a *ℤ neg_ℤ b ≡ neg_ℤ (a *ℤ b)
mul-neg a b = grind arith

pub neg-mul : (a b : ℤ) → neg_ℤ a *ℤ b ≡ neg_ℤ (a *ℤ b)
neg-mul a b = mul_comm (neg_ℤ a) b ∙ mul-neg b a ∙ ap neg_ℤ (mul_comm b a)

pub mul-add : (a b c : ℤ) → a *ℤ (b +ℤ c) ≡ a *ℤ b +ℤ a *ℤ c
mul-add a b c =
    let whole = sum_is_lem b c in
    omega (arith, parts, ap (λ x. up a * x) whole, ap (λ x. down a * x) whole)

pub add-mul : (a b c : ℤ) → (a +ℤ b) *ℤ c ≡ a *ℤ c +ℤ b *ℤ c
add-mul a b c = mul_comm (a +ℤ b) c ∙ mul-add c a b ∙ (λ i. mul_comm c a i +ℤ mul_comm c b i)

-- the parts of both products by the parts of the factors
mul_assoc_parts : (a b c : ℤ) → (up ((a *ℤ b) *ℤ c) ≡ up (a *ℤ (b *ℤ c))) × (down ((a *ℤ b) *ℤ c) ≡ down (a *ℤ (b *ℤ c)))
mul_assoc_parts a b c =
    let left = product_is a b in
    let right = product_is b c in
    omega (
      arith,
      product_is (a *ℤ b) c,
      product_is a (b *ℤ c),
      ap (λ x. x * up c) left.0,
      ap (λ x. x * up c) left.1,
      ap (λ x. x * down c) left.0,
      ap (λ x. x * down c) left.1,
      ap (λ x. up a * x) right.0,
      ap (λ x. up a * x) right.1,
      ap (λ x. down a * x) right.0,
      ap (λ x. down a * x) right.1,
    )

pub mul_assoc : (a b c : ℤ) → (a *ℤ b) *ℤ c ≡ a *ℤ (b *ℤ c)
mul_assoc a b c = let e = mul_assoc_parts a b c in same_in _ _ (omega arith)

-- two factors change places
pub mul_left_comm : (a b c : ℤ) → a *ℤ (b *ℤ c) ≡ b *ℤ (a *ℤ c)
mul_left_comm a b c = sym (mul_assoc a b c) ∙ ap (λ x. x *ℤ c) (mul_comm a b) ∙ mul_assoc b a c

pub mul-sub : (a b c : ℤ) → a *ℤ (b -ℤ c) ≡ a *ℤ b -ℤ a *ℤ c
mul-sub a b c = mul-add a b (neg_ℤ c) ∙ ap (λ x. a *ℤ b +ℤ x) (mul-neg a c)

pub sub-mul : (a b c : ℤ) → (a -ℤ b) *ℤ c ≡ a *ℤ c -ℤ b *ℤ c
sub-mul a b c = add-mul a (neg_ℤ b) c ∙ ap (λ x. a *ℤ c +ℤ x) (neg-mul b c)

pub ruleset spread = (mul-add, add-mul, mul-neg, neg-mul)

-- ---- the order
pub le_refl : (a : ℤ) → a ≤ℤ a
le_refl a = omega (arith, linear)

pub le_trans : (a b c : ℤ) → a ≤ℤ b → b ≤ℤ c → a ≤ℤ c
le_trans a b c h k = omega (arith, linear)

pub le_antisymm : (a b : ℤ) → a ≤ℤ b → b ≤ℤ a → a ≡ b
le_antisymm a b h k = omega (arith, linear)

pub le_of_eq : (a b : ℤ) → a ≡ b → a ≤ℤ b
le_of_eq a b e = omega (arith, linear)

pub add-le-add : (a b c d : ℤ) → a ≤ℤ b → c ≤ℤ d → (a +ℤ c) ≤ℤ (b +ℤ d)
add-le-add a b c d h k = omega (arith, linear)

pub sub_nonneg : (a b : ℤ) → a ≤ℤ b → pos 0 ≤ℤ (b -ℤ a)
sub_nonneg a b h = omega (arith, linear)

pub le_from_sub : (a b : ℤ) → pos 0 ≤ℤ (b -ℤ a) → a ≤ℤ b
le_from_sub a b h = omega (arith, linear)

pub pos_nonneg : (n : ℕ) → pos 0 ≤ℤ pos n
pos_nonneg n = omega (arith, linear)

pub pos-le-pos : (m n : ℕ) → m ≤ n → pos m ≤ℤ pos n
pos-le-pos m n h = omega (arith, linear)

-- the order is decided
pub le_or_lt : (a b : ℤ) → (a ≤ℤ b) ⊎ (b <ℤ a)
le_or_lt a b = by_lt_z b a inr inl

-- a number at least 0 is a natural one
pub pos_of_nonneg : (a : ℤ) → pos 0 ≤ℤ a → (n : ℕ) × (a ≡ pos n)
pos_of_nonneg (pos n) h = (n, refl)
pos_of_nonneg (negsuc n) h = absurd (omega (arith, linear))

pub mul_nonneg : (a b : ℤ) → pos 0 ≤ℤ a → pos 0 ≤ℤ b → pos 0 ≤ℤ (a *ℤ b)
mul_nonneg (pos m) (pos n) h k = pos_nonneg (m * n)
mul_nonneg (pos m) (negsuc n) h k = absurd (omega (arith, linear))
mul_nonneg (negsuc m) b h k = absurd (omega (arith, linear))

-- a factor that is not negative keeps the order
pub mul-le-mul_left : (q a b : ℤ) → pos 0 ≤ℤ q → a ≤ℤ b → (q *ℤ a) ≤ℤ (q *ℤ b)
mul-le-mul_left q a b h k =
    le_from_sub (q *ℤ a) (q *ℤ b) (subst (λ x. pos 0 ≤ℤ x) (mul-sub q b a) (mul_nonneg q (b -ℤ a) h (sub_nonneg a b k)))

pub mul-le-mul_right : (q a b : ℤ) → pos 0 ≤ℤ q → a ≤ℤ b → (a *ℤ q) ≤ℤ (b *ℤ q)
mul-le-mul_right q a b h k = rw (mul_comm a q, mul_comm b q) (mul-le-mul_left q a b h k)

-- the same at a factor of ℕ
pub scale-le-scale : (q : ℕ) (a b : ℤ) → a ≤ℤ b → (pos q *ℤ a) ≤ℤ (pos q *ℤ b)
scale-le-scale q a b k = mul-le-mul_left (pos q) a b (pos_nonneg q) k

-- and one that is not positive turns it
pub mul-le-mul_turned : (q a b : ℤ) → q ≤ℤ pos 0 → a ≤ℤ b → (q *ℤ b) ≤ℤ (q *ℤ a)
mul-le-mul_turned q a b h k =
    let less = mul-le-mul_left (neg_ℤ q) a b (omega (arith, linear)) k in
    let turned : neg_ℤ (q *ℤ a) ≤ℤ neg_ℤ (q *ℤ b) = rw (← neg-mul q a, ← neg-mul q b) less in
    omega (arith, linear)

-- a positive factor can be taken away
pub le_from_mul : (q a b : ℤ) → pos 0 <ℤ q → (q *ℤ a) ≤ℤ (q *ℤ b) → a ≤ℤ b
le_from_mul q a b h k = by_lt_z b a (λ less. absurd (below less)) (λ le. le)
  where
    below : b <ℤ a → ⊥
    below less =
        let more : (b +ℤ pos 1) ≤ℤ a = omega (arith, linear) in
        let times : (q *ℤ (b +ℤ pos 1)) ≤ℤ (q *ℤ a) = mul-le-mul_left q (b +ℤ pos 1) a (omega (arith, linear)) more in
        let spread_out = rw (mul-add q b (pos 1), mul-one q) at times in
        omega (arith, linear)

pub mul-lt-mul_left : (q a b : ℤ) → pos 0 <ℤ q → a <ℤ b → (q *ℤ a) <ℤ (q *ℤ b)
mul-lt-mul_left q a b h k = by_lt_z (q *ℤ a) (q *ℤ b) (λ less. less) (λ le. absurd (omega (arith, linear, le_from_mul q b a h le)))

-- one more of a number
pub suc-mul : (n : ℕ) (a : ℤ) → pos (suc n) *ℤ a ≡ pos n *ℤ a +ℤ a
suc-mul n a = grind arith

-- two numbers of ℕ, as numbers of ℤ
pub pos-mul : (m n : ℕ) → pos (m * n) ≡ pos m *ℤ pos n
pos-mul m n = refl
