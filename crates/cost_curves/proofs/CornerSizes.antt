-- The sizes of outputs and costs between corners.
-- Cite from a crate above by `use Rattle.cost_curves.proofs.CornerSizes.{output-size}`.
use Rattle.std.proofs.Common.{◌≡◌, ℕ, ◌-◌, ◌*◌, ◌<◌, ◌≤◌, sym, subst, ◌∙◌, arith, lit<, List, length, to_z, of_z, ℤ, pos, ◌+ℤ◌, ◌-ℤ◌, ◌*ℤ◌, neg_ℤ, ◌≤ℤ◌, ◌<ℤ◌, unsigned_abs}
use Rattle.std.specs.Int.{w64, w128}
use Rattle.std.proofs.lemmas.Int.{ints}
use Rattle.uc_model.specs.Prelude.{IsCeiling, output_of}
use Rattle.uc_model.specs.declared.limits.TheConstants.{MAX_COST, MAX_DENOMINATOR, MAX_POWER}
use Rattle.uc_model.proofs.Common.{linear, mul_comm, mul-zero, mul-lt-mul_left, le_trans, le_from_mul, mul-le-mul_right, mul-le-mul_turned, scale-le-scale, IsCeiling-least, abs_sub, abs_mul, narrow}
use Rattle.uc_model.proofs.Sizes.{wide}
use Rattle.cost_curves.specs.LowerHull.{Point, AreLawfulCorners, width_of}

pub output-size : (corners : List Point) → AreLawfulCorners corners → (i : ℕ) → i < length corners → unsigned_abs (output_of corners i) ≤ 2 * MAX_POWER
output-size corners lawful i h = grind (arith, ints, lawful, h)

-- a number between 0 and another is no greater in size
pub between-size : (p x : ℤ) (m : ℕ) → pos 0 ≤ℤ p → p ≤ℤ x → unsigned_abs x ≤ m → unsigned_abs p ≤ m
between-size p x m low high size = omega (arith, ints)

-- the part of a rise, rounded up, is no greater in size
pub ceiling-size : (r v w n : ℤ) (m : ℕ) → unsigned_abs r ≤ m → pos 0 ≤ℤ v → v ≤ℤ w → pos 0 <ℤ w → IsCeiling (r *ℤ v) w n → unsigned_abs n ≤ m
ceiling-size r v w n m size low high positive ceiling =
    let up : r ≤ℤ pos m = omega (arith, ints) in
    let down : neg_ℤ (pos m) ≤ℤ r = omega (arith, ints) in
    let most : (r *ℤ v) ≤ℤ (pos m *ℤ w) = le_trans _ _ _ (mul-le-mul_right v r (pos m) low up) (scale-le-scale m v w high) in
    let least : (neg_ℤ (pos m) *ℤ w) ≤ℤ (n *ℤ w) =
    le_trans _ _ _ (mul-le-mul_turned (neg_ℤ (pos m)) v w (omega (arith, linear)) high) (le_trans _ _ _ (mul-le-mul_right v (neg_ℤ (pos m)) r low down) ceiling.above) in
    let first = IsCeiling-least (r *ℤ v) w n (pos m) positive ceiling most in
    let second = le_from_mul w (neg_ℤ (pos m)) n positive (rw (mul_comm w (neg_ℤ (pos m)), mul_comm w n) least) in
    omega (arith, ints)

-- a denominator, and so many times a width
pub denominator-size : (q : ℤ) → pos 1 ≤ℤ q → q ≤ℤ pos MAX_DENOMINATOR → unsigned_abs q ≤ MAX_DENOMINATOR
denominator-size q low high = omega (arith, ints)

pub over-size : (q w : ℤ) → pos 1 ≤ℤ q → q ≤ℤ pos MAX_DENOMINATOR → unsigned_abs w ≤ 2 * MAX_POWER → unsigned_abs (q *ℤ w) ≤ MAX_DENOMINATOR * (2 * MAX_POWER)
over-size q w low high size = abs_mul q w MAX_DENOMINATOR (2 * MAX_POWER) (denominator-size q low high) size

-- a number up to the width over q
pub numerator-size : (corners : List Point) (p q : ℤ) → AreLawfulCorners corners → pos 1 ≤ℤ q → q ≤ℤ pos MAX_DENOMINATOR → pos 0 ≤ℤ p
    → p ≤ℤ (q *ℤ width_of corners) → unsigned_abs p ≤ MAX_DENOMINATOR * (2 * MAX_POWER)
numerator-size corners p q lawful some few low high =
    between-size p (q *ℤ width_of corners) (MAX_DENOMINATOR * (2 * MAX_POWER)) low high
    (over-size q (width_of corners) some few (output-size corners lawful (length corners - 1) (omega (arith, lawful.some))))

-- the quotient of a number that isn't negative, rounded up, lies between 0 and the number
pub whole-is : (p q n : ℤ) → pos 1 ≤ℤ q → pos 0 ≤ℤ p → IsCeiling p q n → (pos 0 ≤ℤ n) × (n ≤ℤ p)
whole-is p q n some low ceiling = grind (arith, ints, some, low, ceiling)

-- what the calls give for a width over q
record IsWidth (q w : ℤ) (width : ℤ) : Type 0 where
  pub is : to_z w128 (of_z w128 width) ≡ q *ℤ w
  pub size : unsigned_abs (q *ℤ w) ≤ MAX_DENOMINATOR * (2 * MAX_POWER)
  pub positive : pos 0 <ℤ (q *ℤ w)

width-over : (q run width w : ℤ) → pos 1 ≤ℤ q → q ≤ℤ pos MAX_DENOMINATOR → run ≡ w → unsigned_abs run ≤ 2 * MAX_POWER → pos 0 <ℤ w
    → width ≡ to_z w64 (of_z w64 q) *ℤ to_z w64 (of_z w64 run) → IsWidth q w width
width-over q run width w some few run_is run_size positive width_is =
    let most = MAX_DENOMINATOR * (2 * MAX_POWER) in
    let size : unsigned_abs (q *ℤ w) ≤ most = over-size q w some few (subst (λ z. unsigned_abs z ≤ 2 * MAX_POWER) run_is run_size) in
    let divisor : width ≡ q *ℤ w =
    width_is ∙ (λ t. narrow q MAX_DENOMINATOR (denominator-size q some few) (lit< tt) t *ℤ (narrow run (2 * MAX_POWER) run_size (lit< tt) ∙ run_is) t) in
    let divisor_size : unsigned_abs width ≤ most = subst (λ z. unsigned_abs z ≤ most) (sym divisor) size in
    record {
      is = wide width most divisor_size (lit< tt) ∙ divisor;
      size = size;
      positive = subst (λ z. z <ℤ (q *ℤ w)) (mul-zero q) (mul-lt-mul_left q (pos 0) w (omega (arith, linear)) positive);
    }

pub width-positive : (q run width w : ℤ) → pos 1 ≤ℤ q → q ≤ℤ pos MAX_DENOMINATOR → run ≡ w → unsigned_abs run ≤ 2 * MAX_POWER → pos 0 <ℤ w
    → width ≡ to_z w64 (of_z w64 q) *ℤ to_z w64 (of_z w64 run) → pos 0 <ℤ to_z w128 (of_z w128 width)
width-positive q run width w some few run_is run_size positive width_is =
    let whole = width-over q run width w some few run_is run_size positive width_is in
    subst (λ z. pos 0 <ℤ z) (sym whole.is) whole.positive

-- and for a quotient rounded up
pub ceiling-is : (over q rise rising run width n : ℤ) (r w : ℤ) → rise ≡ r → unsigned_abs rise ≤ 2 * MAX_COST → run ≡ w → unsigned_abs run ≤ 2 * MAX_POWER
    → pos 1 ≤ℤ q → q ≤ℤ pos MAX_DENOMINATOR → pos 0 ≤ℤ over → over ≤ℤ (q *ℤ w) → pos 0 <ℤ w
    → rising ≡ to_z w64 (of_z w64 rise) *ℤ to_z w64 (of_z w64 over) → width ≡ to_z w64 (of_z w64 q) *ℤ to_z w64 (of_z w64 run)
    → IsCeiling (to_z w128 (of_z w128 rising)) (to_z w128 (of_z w128 width)) n
    → IsCeiling (r *ℤ over) (q *ℤ w) n × (unsigned_abs n ≤ 2 * MAX_COST)
ceiling-is over q rise rising run width n r w rise_is rise_size run_is run_size some few low high positive rising_is width_is ceiling =
    let most = MAX_DENOMINATOR * (2 * MAX_POWER) in
    let divisor = width-over q run width w some few run_is run_size positive width_is in
    let small : unsigned_abs over ≤ most = between-size over (q *ℤ w) most low high divisor.size in
    let number : rising ≡ r *ℤ over = rising_is ∙ (λ t. (narrow rise (2 * MAX_COST) rise_size (lit< tt) ∙ rise_is) t *ℤ narrow over most small (lit< tt) t) in
    let rise_fits = subst (λ z. unsigned_abs z ≤ 2 * MAX_COST) rise_is rise_size in
    let size : unsigned_abs rising ≤ 2 * MAX_COST * most =
    subst (λ z. unsigned_abs z ≤ 2 * MAX_COST * most) (sym number) (abs_mul r over (2 * MAX_COST) most rise_fits small) in
    let first : to_z w128 (of_z w128 rising) ≡ r *ℤ over = wide rising (2 * MAX_COST * most) size (lit< tt) ∙ number in
    let whole = subst (λ z. IsCeiling (r *ℤ over) z n) divisor.is (subst (λ z. IsCeiling z (to_z w128 (of_z w128 width)) n) first ceiling) in
    (whole, ceiling-size r over (q *ℤ w) n (2 * MAX_COST) rise_fits low high divisor.positive whole)

-- a cost and a rise of it
pub cost-sum : (cost rise : ℤ) → unsigned_abs cost ≤ MAX_COST → unsigned_abs rise ≤ 2 * MAX_COST
    → to_z w64 (of_z w64 (to_z w64 (of_z w64 cost) +ℤ to_z w64 (of_z w64 rise))) ≡ cost +ℤ rise
cost-sum cost rise h k = grind (arith, ints, h, k)

-- how far p over q lies right of a corner, as calls give it: the product, the difference and its bits
pub record IsOver (p q x : ℤ) (number : ℤ) : Type 0 where
  pub product : to_z w64 (of_z w64 q) *ℤ to_z w64 (of_z w64 number) ≡ q *ℤ x
  pub product_size : unsigned_abs (q *ℤ x) ≤ MAX_DENOMINATOR * (2 * MAX_POWER)
  pub output : to_z w64 (of_z w64 p) ≡ p
  pub size : unsigned_abs (p -ℤ q *ℤ x) ≤ 2 * (MAX_DENOMINATOR * (2 * MAX_POWER))

pub over-is : (corners : List Point) (p q number : ℤ) (left : ℕ) → AreLawfulCorners corners → left < length corners → pos 1 ≤ℤ q → q ≤ℤ pos MAX_DENOMINATOR
    → (q *ℤ output_of corners left) ≤ℤ p → p ≤ℤ (q *ℤ width_of corners) → number ≡ output_of corners left → IsOver p q (output_of corners left) number
over-is corners p q number left lawful within some few low high e =
    let most = MAX_DENOMINATOR * (2 * MAX_POWER) in
    let corner = output-size corners lawful left within in
    let begins = over-size q (output_of corners left) some few corner in
    let ends = over-size q (width_of corners) some few (output-size corners lawful (length corners - 1) (omega (arith, lawful.some))) in
    let size : unsigned_abs p ≤ most = apart p (q *ℤ output_of corners left) (q *ℤ width_of corners) most begins ends low high in
    let small : unsigned_abs number ≤ 2 * MAX_POWER = subst (λ z. unsigned_abs z ≤ 2 * MAX_POWER) (sym e) corner in
    record {
      product = (λ t. narrow q MAX_DENOMINATOR (denominator-size q some few) (lit< tt) t *ℤ (narrow number (2 * MAX_POWER) small (lit< tt) ∙ e) t);
      product_size = begins;
      output = narrow p most size (lit< tt);
      size = twice p (q *ℤ output_of corners left) most size begins;
    }
  where
    apart : (z a b : ℤ) (m : ℕ) → unsigned_abs a ≤ m → unsigned_abs b ≤ m → a ≤ℤ z → z ≤ℤ b → unsigned_abs z ≤ m
    apart z a b m h k low high = omega (arith, ints)

    twice : (a b : ℤ) (m : ℕ) → unsigned_abs a ≤ m → unsigned_abs b ≤ m → unsigned_abs (a -ℤ b) ≤ 2 * m
    twice a b m h k = let both = abs_sub a b m m h k in omega arith

-- the next output, right of which there is more
pub next-bits : (corners : List Point) (p : ℤ) → AreLawfulCorners corners → pos 0 ≤ℤ p → p <ℤ width_of corners
    → to_z w64 (of_z w64 (to_z w64 (of_z w64 p) +ℤ pos 1)) ≡ p +ℤ pos 1
next-bits corners p lawful low high = grind (arith, ints, output-size, between-size, narrow, lawful, low, high)
