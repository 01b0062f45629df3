-- The sizes of the numbers at corners, and what the calls give.
use Rattle.std.proofs.Common.{◌≡◌, ℕ, ◌+◌, ◌*◌, ◌<◌, ◌≤◌, ◌^◌, List, length, sym, ap, subst, ◌∙◌, arith, lit<, to_z, of_z, ℤ, pos, ◌+ℤ◌, ◌-ℤ◌, ◌*ℤ◌, neg_ℤ, ◌≤ℤ◌, ◌<ℤ◌, unsigned_abs}
use Rattle.std.specs.Int.{w64, w128}
use Rattle.std.proofs.lemmas.Int.{ints}
use Rattle.uc_model.specs.Prelude.{IsFloor, IsCeiling, point_of}
use Rattle.uc_model.specs.declared.limits.TheConstants.{MAX_POWER, MAX_COST}
use Rattle.uc_model.proofs.Common.{linear, spread, mul_comm, mul_assoc, neg-mul, IsFloor-add, IsCeiling-neg, abs_narrow, wide-size, scaled-size, sum-size, sum-is, product-size, product-is}
use Rattle.uc_model.proofs.Sizes.{wide}
use Rattle.dual_model.specs.Prelude.{IsLawfulScale}
use Rattle.dual_model.specs.declared.limits.TheConstants.{MAX_UNIT_PRICE}
use Rattle.cost_curves.specs.LowerHull.{AreLawfulCorners}
use Rattle.cost_curves.proofs.CornerSizes.{ceiling-size}
use Rattle.period_term.specs.inside.Places.{Point, MAX_CORNER_COST, MAX_RISE, MAX_OVER}

-- a number of 64 bits, as it is passed
pub passed-size : (z : ℤ) (m : ℕ) → unsigned_abs z ≤ m → unsigned_abs (to_z w64 (of_z w64 z)) ≤ m
passed-size z m h = omega (arith, abs_narrow z)

pub scale-size : (k : ℤ) → IsLawfulScale k → unsigned_abs k ≤ 10 ^ 9
scale-size k scale = omega (arith, ints, scale.low, scale.high)

-- a scaled cost, as a call gives it
pub scaled_cost-size : (corners : List Point) (k r : ℤ) (i : ℕ) → AreLawfulCorners corners → IsLawfulScale k → i < length corners
    → r ≡ to_z w64 (of_z w64 k) *ℤ to_z w64 (of_z w64 (point_of corners i).cost) → unsigned_abs r ≤ 10 ^ 9 * MAX_COST
scaled_cost-size corners k r i lawful scale h e =
    scaled-size k (point_of corners i).cost r (10 ^ 9) MAX_COST e (scale-size k scale) (lawful.each i h).cost

pub scaled_cost-is : (corners : List Point) (k r : ℤ) (i : ℕ) → AreLawfulCorners corners → IsLawfulScale k → i < length corners
    → r ≡ to_z w64 (of_z w64 k) *ℤ to_z w64 (of_z w64 (point_of corners i).cost) → r ≡ k *ℤ (point_of corners i).cost
scaled_cost-is corners k r i lawful scale h e = grind (arith, ints, lawful, scale, h, e)

-- the part of a rise, rounded down, is no greater in size
pub floor_part-size : (r v w n : ℤ) (m : ℕ) → unsigned_abs r ≤ m → pos 0 ≤ℤ v → v ≤ℤ w → pos 0 <ℤ w → IsFloor (r *ℤ v) w n → unsigned_abs n ≤ m
floor_part-size r v w n m size low high positive floor =
    let turned = subst (λ z. IsCeiling z w (neg_ℤ n)) (sym (neg-mul r v)) (IsCeiling-neg (r *ℤ v) w n floor) in
    omega (arith, ints, ceiling-size (neg_ℤ r) v w (neg_ℤ n) m (omega (arith, ints)) low high positive turned)

-- the reduced cost on a segment, with the price of the output outside the quotient
pub priced_floor : (k a c d x y over q : ℤ) → IsFloor ((k *ℤ (d -ℤ c)) *ℤ over) (y -ℤ x) q
    → IsFloor (((k *ℤ d +ℤ a *ℤ y) -ℤ (k *ℤ c +ℤ a *ℤ x)) *ℤ over) (y -ℤ x) (q +ℤ a *ℤ over)
priced_floor k a c d x y over q floor =
    subst (λ z. IsFloor z (y -ℤ x) (q +ℤ a *ℤ over)) (sym whole) (IsFloor-add ((k *ℤ (d -ℤ c)) *ℤ over) (y -ℤ x) q (a *ℤ over) floor)
  where
    parts : (k *ℤ d +ℤ a *ℤ y) -ℤ (k *ℤ c +ℤ a *ℤ x) ≡ k *ℤ (d -ℤ c) +ℤ a *ℤ (y -ℤ x)
    parts = simp spread (omega (arith, linear))

    product : ((k *ℤ (d -ℤ c)) +ℤ a *ℤ (y -ℤ x)) *ℤ over ≡ (k *ℤ (d -ℤ c)) *ℤ over +ℤ (a *ℤ over) *ℤ (y -ℤ x)
    product = swapped (k *ℤ (d -ℤ c)) a (y -ℤ x) over
      where
        swapped : (u a w v : ℤ) → (u +ℤ a *ℤ w) *ℤ v ≡ u *ℤ v +ℤ (a *ℤ v) *ℤ w
        swapped u a w v =
            let e1 = mul_assoc a w v in
            let e2 = mul_assoc a v w in
            let e3 = ap (λ z. a *ℤ z) (mul_comm w v) in
            simp spread (omega (arith, linear))

    whole : ((k *ℤ d +ℤ a *ℤ y) -ℤ (k *ℤ c +ℤ a *ℤ x)) *ℤ over ≡ (k *ℤ (d -ℤ c)) *ℤ over +ℤ (a *ℤ over) *ℤ (y -ℤ x)
    whole = ap (λ z. z *ℤ over) parts ∙ product

-- ---- what the calls give
-- the part of a rise until the cap
pub rise_down-is : (r v w rise over run rising q : ℤ) → rise ≡ r → unsigned_abs rise ≤ MAX_RISE → over ≡ v → unsigned_abs over ≤ MAX_OVER
    → run ≡ w → unsigned_abs run ≤ 4 * MAX_POWER → pos 0 ≤ℤ v → v ≤ℤ w → pos 0 <ℤ w
    → rising ≡ to_z w128 (of_z w128 rise) *ℤ to_z w128 (of_z w128 over)
    → IsFloor (to_z w128 (of_z w128 rising)) (to_z w128 (of_z w128 run)) q
    → IsFloor (r *ℤ v) w (to_z w128 (of_z w128 q)) × (unsigned_abs (to_z w128 (of_z w128 q)) ≤ MAX_RISE)
rise_down-is r v w rise over run rising q rise_is rise_size over_is over_size run_is run_size low high positive e floor =
    let number : to_z w128 (of_z w128 rising) ≡ r *ℤ v =
    wide rising (MAX_RISE * MAX_OVER) (product-size rise over rising MAX_RISE MAX_OVER e rise_size over_size) (lit< tt)
    ∙ product-is rise over rising MAX_RISE MAX_OVER e rise_size over_size (lit< tt) (lit< tt) ∙ (λ t. rise_is t *ℤ over_is t) in
    let divisor : to_z w128 (of_z w128 run) ≡ w = wide run (4 * MAX_POWER) run_size (lit< tt) ∙ run_is in
    let exact : IsFloor (r *ℤ v) w q = subst (λ z. IsFloor (r *ℤ v) z q) divisor (subst (λ z. IsFloor z (to_z w128 (of_z w128 run)) q) number floor) in
    let size : unsigned_abs q ≤ MAX_RISE = floor_part-size r v w q MAX_RISE (subst (λ z. unsigned_abs z ≤ MAX_RISE) rise_is rise_size) low high positive exact in
    (subst (IsFloor (r *ℤ v) w) (sym (wide q MAX_RISE size (lit< tt))) exact, wide-size q MAX_RISE size)

-- a sum of two, and of three, and their size
pub sum_is : (x y r : ℤ) (m n : ℕ) → r ≡ to_z w128 (of_z w128 x) +ℤ to_z w128 (of_z w128 y) → unsigned_abs x ≤ m → unsigned_abs y ≤ n → m + n < 2 ^ 127
    → (to_z w128 (of_z w128 r) ≡ x +ℤ y) × (unsigned_abs (to_z w128 (of_z w128 r)) ≤ m + n)
sum_is x y r m n e h k fits = grind (arith, ints, e, h, k, fits)

pub product_is : (x y r : ℤ) (m n : ℕ) → r ≡ to_z w128 (of_z w128 x) *ℤ to_z w128 (of_z w128 y) → unsigned_abs x ≤ m → unsigned_abs y ≤ n
    → m < 2 ^ 127 → n < 2 ^ 127 → (r ≡ x *ℤ y) × (unsigned_abs r ≤ m * n)
product_is x y r m n e h k p q = (product-is x y r m n e h k p q, product-size x y r m n e h k)

-- a corner's cost and the price of what lies between it and the cap
pub level_is : (a v f over price level : ℤ) → unsigned_abs a ≤ 2 * MAX_UNIT_PRICE → over ≡ v → unsigned_abs over ≤ MAX_OVER → unsigned_abs f ≤ MAX_CORNER_COST
    → price ≡ to_z w128 (of_z w128 a) *ℤ to_z w128 (of_z w128 over) → level ≡ to_z w128 (of_z w128 f) +ℤ to_z w128 (of_z w128 price)
    → (level ≡ f +ℤ a *ℤ v) × (unsigned_abs level ≤ MAX_CORNER_COST + 2 * MAX_UNIT_PRICE * MAX_OVER)
level_is a v f over price level a_size over_is over_size f_size e g =
    let priced = product_is a over price (2 * MAX_UNIT_PRICE) MAX_OVER e a_size over_size (lit< tt) (lit< tt) in (
      sum-is f price level MAX_CORNER_COST (2 * MAX_UNIT_PRICE * MAX_OVER) g f_size priced.1 (lit< tt)
          ∙ ap (λ z. f +ℤ z) (priced.0 ∙ ap (λ z. a *ℤ z) over_is),
      sum-size f price level MAX_CORNER_COST (2 * MAX_UNIT_PRICE * MAX_OVER) g f_size priced.1,
    )

-- the floor on a segment, as the sum gives it
pub segment_floor : (k a c d x y over f q r : ℤ) → f ≡ k *ℤ c +ℤ a *ℤ x → r ≡ (f +ℤ a *ℤ over) +ℤ q → IsFloor ((k *ℤ (d -ℤ c)) *ℤ over) (y -ℤ x) q
    → IsFloor (((k *ℤ d +ℤ a *ℤ y) -ℤ (k *ℤ c +ℤ a *ℤ x)) *ℤ over) (y -ℤ x) (r -ℤ (k *ℤ c +ℤ a *ℤ x))
segment_floor k a c d x y over f q r e is floor =
    subst (λ z. IsFloor (((k *ℤ d +ℤ a *ℤ y) -ℤ (k *ℤ c +ℤ a *ℤ x)) *ℤ over) (y -ℤ x) z) (omega (arith, linear))
    (priced_floor k a c d x y over q floor)
