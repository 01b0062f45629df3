-- The bounds of a cell by finitely many tests: a number bounds the reduced cost of every choice of weights and reserve
-- exactly where it does so at the corners of these choices, which are a point at or left of the cap, alone or with all
-- the reserve that is left, and a point at or left of the cap with one right of it that together meet the cap.
--
-- Over plain functions of the point: f is its reduced cost, d how far it lies left of the cap.
use Rattle.std.proofs.Common.{◌≡◌, ℕ, ◌<◌, true, false, cond, refl, ap, subst, ◌∙◌, arith, ℤ, pos, ◌+ℤ◌, ◌-ℤ◌, ◌*ℤ◌, neg_ℤ, ◌≤ℤ◌, ◌<ℤ◌, int_le}
use Rattle.std.proofs.lemmas.Int.{ints, by_lt_z}
use Rattle.uc_model.specs.Prelude.{sum_below}
use Rattle.uc_model.proofs.Common.{linear, spread, mul_comm, mul_assoc, mul_nonneg, sub_nonneg, mul-zero, zero-mul, mul-le-mul_left, mul-le-mul_turned, le_from_mul, pos_nonneg, mul-add, add-mul, neg-mul, one-mul, sub-mul, sum_below-same, sum_below-zero, sum_below-add, sum_below-sub, sum_below-neg, sum_below_nonneg, sum_below-mul_left, sum_below-mul_right, term-le-sum_below}

-- m bounds the reduced cost at each corner, b being the price of reserve
pub record BoundsCorners (n : ℕ) (f d : ℕ → ℤ) (b m : ℤ) : Type 0 where
  pub point : (l : ℕ) → l < n → pos 0 ≤ℤ d l → m ≤ℤ f l
  pub reserve : (l : ℕ) → l < n → pos 0 ≤ℤ d l → m ≤ℤ (f l +ℤ b *ℤ d l)
  pub pair : (l j : ℕ) → l < n → j < n → pos 0 ≤ℤ d l → d j <ℤ pos 0 →
      ((d l -ℤ d j) *ℤ m) ≤ℤ (neg_ℤ (d j) *ℤ f l +ℤ d l *ℤ f j)

-- the weight of a point at or left of the cap, and that of one right of it
left : ℤ → ℤ → ℤ
left d w = cond (int_le (pos 0) d) w (pos 0)

right : ℤ → ℤ → ℤ
right d w = cond (int_le (pos 0) d) (pos 0) w

-- what holds of a point on either side
sides : (d w : ℤ) (P : ℤ → ℤ → Type 0) → (pos 0 ≤ℤ d → P w (pos 0)) → (d <ℤ pos 0 → P (pos 0) w) → P (left d w) (right d w)
unfolding left right
sides d w P here there =
    elim (int_le (pos 0) d) as (λ v. (int_le (pos 0) d ≡ v) → P (cond v w (pos 0)) (cond v (pos 0) w)) [
      | true ↦ λ h. here (grind (arith, ints))
      | false ↦ λ h. there (grind (arith, ints))
    ] refl

parted : (x d w : ℤ) → x *ℤ w ≡ x *ℤ left d w +ℤ x *ℤ right d w
parted x d w = sides d w (λ u v. x *ℤ w ≡ x *ℤ u +ℤ x *ℤ v)
    (λ h. rw (mul-zero x) (omega (arith, linear)))
    (λ h. rw (mul-zero x) (omega (arith, linear)))

sum_parted : (n : ℕ) (x d w : ℕ → ℤ) → sum_below n (λ l. x l *ℤ w l)
    ≡ sum_below n (λ l. x l *ℤ left (d l) (w l)) +ℤ sum_below n (λ l. x l *ℤ right (d l) (w l))
sum_parted n x d w =
    sum_below-same n _ (λ l. x l *ℤ left (d l) (w l) +ℤ x l *ℤ right (d l) (w l)) (λ l h. parted (x l) (d l) (w l))
    ∙ sum_below-add n (λ l. x l *ℤ left (d l) (w l)) (λ l. x l *ℤ right (d l) (w l))

-- a sum over pairs of products is made of products of sums
pairs_nonneg : (n : ℕ) (x y z u : ℕ → ℤ) → ((l j : ℕ) → l < n → j < n → pos 0 ≤ℤ (x l *ℤ y j +ℤ z l *ℤ u j))
    → pos 0 ≤ℤ (sum_below n x *ℤ sum_below n y +ℤ sum_below n z *ℤ sum_below n u)
pairs_nonneg n x y z u each =
    let inner : (l : ℕ) → sum_below n (λ j. x l *ℤ y j +ℤ z l *ℤ u j) ≡ x l *ℤ sum_below n y +ℤ z l *ℤ sum_below n u =
    λ l. sum_below-add n (λ j. x l *ℤ y j) (λ j. z l *ℤ u j)
    ∙ (λ i. sum_below-mul_left n (x l) y i +ℤ sum_below-mul_left n (z l) u i) in
    let outer : sum_below n (λ l. sum_below n (λ j. x l *ℤ y j +ℤ z l *ℤ u j))
    ≡ sum_below n x *ℤ sum_below n y +ℤ sum_below n z *ℤ sum_below n u =
    sum_below-same n _ (λ l. x l *ℤ sum_below n y +ℤ z l *ℤ sum_below n u) (λ l h. inner l)
    ∙ sum_below-add n (λ l. x l *ℤ sum_below n y) (λ l. z l *ℤ sum_below n u)
    ∙ (λ i. sum_below-mul_right n x (sum_below n y) i +ℤ sum_below-mul_right n z (sum_below n u) i) in
    subst (λ s. pos 0 ≤ℤ s) outer
    (sum_below_nonneg n (λ l. sum_below n (λ j. x l *ℤ y j +ℤ z l *ℤ u j)) (λ l h.
    sum_below_nonneg n (λ j. x l *ℤ y j +ℤ z l *ℤ u j) (λ j i. each l j h i)))

-- the sums on both sides of the cap: how far the weights lie left of it (`near`) and right of it (`far`), what they
-- cost above the bound, and the reserve
weighed : (near far cost_left cost_right b r : ℤ) → pos 0 ≤ℤ near → pos 0 ≤ℤ r → r ≤ℤ (near -ℤ far) → pos 0 ≤ℤ cost_left
    → pos 0 ≤ℤ (cost_left +ℤ b *ℤ near) → pos 0 ≤ℤ (near *ℤ cost_right +ℤ far *ℤ cost_left)
    → (near ≡ pos 0 → cost_right ≡ pos 0)
    → pos 0 ≤ℤ far
    → pos 0 ≤ℤ (cost_left +ℤ cost_right +ℤ b *ℤ r)
weighed near far cost_left cost_right b r hn hr most hl held both none hf = by_lt_z (pos 0) near some nothing
  where
    nothing : near ≤ℤ pos 0 → pos 0 ≤ℤ (cost_left +ℤ cost_right +ℤ b *ℤ r)
    nothing small =
        let is_zero : near ≡ pos 0 = omega (arith, linear) in
        let free = none is_zero in
        let no_reserve : r ≡ pos 0 = omega (arith, linear) in
        let unpaid : b *ℤ r ≡ pos 0 = ap (λ z. b *ℤ z) no_reserve ∙ mul-zero b in
        omega (arith, linear)

    room : pos 0 ≤ℤ (near -ℤ far)
    room = omega (arith, linear)

    reserve_paid : pos 0 ≤ℤ ((near -ℤ far) *ℤ cost_left +ℤ near *ℤ (b *ℤ r))
    reserve_paid = by_lt_z b (pos 0)
        (λ negative.
        let less : (b *ℤ (near -ℤ far)) ≤ℤ (b *ℤ r) = mul-le-mul_turned b r (near -ℤ far) (omega (arith, linear)) most in
        let times = mul-le-mul_left near _ _ hn less in
        let whole = mul_nonneg (near -ℤ far) (cost_left +ℤ b *ℤ near) room held in
        let left_part = mul-add (near -ℤ far) cost_left (b *ℤ near) in
        let order : (near -ℤ far) *ℤ (b *ℤ near) ≡ near *ℤ (b *ℤ (near -ℤ far)) =
        mul_comm (near -ℤ far) (b *ℤ near)
        ∙ ap (λ z. z *ℤ (near -ℤ far)) (mul_comm b near)
        ∙ mul_assoc near b (near -ℤ far) in
        omega (arith, linear))
        (λ positive.
        let paid = mul_nonneg near (b *ℤ r) hn (mul_nonneg b r positive hr) in
        let kept = mul_nonneg (near -ℤ far) cost_left room hl in
        omega (arith, linear))

    some : pos 0 <ℤ near → pos 0 ≤ℤ (cost_left +ℤ cost_right +ℤ b *ℤ r)
    some positive =
        let times : (near *ℤ pos 0) ≤ℤ (near *ℤ (cost_left +ℤ cost_right +ℤ b *ℤ r)) =
        let paid = simp spread at reserve_paid in
        rw (mul-zero near) (simp spread (omega (arith, linear))) in
        le_from_mul near (pos 0) (cost_left +ℤ cost_right +ℤ b *ℤ r) positive times

-- ---- all weights
nonneg_left : (d w : ℤ) → pos 0 ≤ℤ w → pos 0 ≤ℤ (d *ℤ left d w)
nonneg_left d w h = sides d w (λ u v. pos 0 ≤ℤ (d *ℤ u))
    (λ near. mul_nonneg d w near h)
    (λ far. rw (mul-zero d) (pos_nonneg 0))

nonneg_right : (d w : ℤ) → pos 0 ≤ℤ w → pos 0 ≤ℤ (neg_ℤ d *ℤ right d w)
nonneg_right d w h = sides d w (λ u v. pos 0 ≤ℤ (neg_ℤ d *ℤ v))
    (λ near. rw (mul-zero (neg_ℤ d)) (pos_nonneg 0))
    (λ far. mul_nonneg (neg_ℤ d) w (omega (arith, linear)) h)

-- a weight right of the cap is at most its distance, weighted
weight-le-far : (d w : ℤ) → pos 0 ≤ℤ w → right d w ≤ℤ (neg_ℤ d *ℤ right d w)
weight-le-far d w h = sides d w (λ u v. v ≤ℤ (neg_ℤ d *ℤ v))
    (λ near. rw (mul-zero (neg_ℤ d)) (pos_nonneg 0))
    (λ far.
    let more = mul_nonneg (neg_ℤ d -ℤ pos 1) w (omega (arith, linear)) h in
    let parts = add-mul (neg_ℤ d) (neg_ℤ (pos 1)) w in
    let one = neg-mul (pos 1) w in
    let same = one-mul w in
    omega (arith, linear))

right_nonneg : (d w : ℤ) → pos 0 ≤ℤ w → pos 0 ≤ℤ right d w
right_nonneg d w h = sides d w (λ u v. pos 0 ≤ℤ v) (λ near. pos_nonneg 0) (λ far. h)

-- the sum of products of the excess over the bound, from those of the cost
excess_sum : (n : ℕ) (f w : ℕ → ℤ) (m q : ℤ) → sum_below n w ≡ q
    → sum_below n (λ l. (f l -ℤ m) *ℤ w l) ≡ sum_below n (λ l. f l *ℤ w l) -ℤ q *ℤ m
excess_sum n f w m q total =
    sum_below-same n (λ l. (f l -ℤ m) *ℤ w l) (λ l. f l *ℤ w l -ℤ m *ℤ w l) (λ l h. sub-mul (f l) m (w l))
    ∙ sum_below-sub n (λ l. f l *ℤ w l) (λ l. m *ℤ w l)
    ∙ ap (λ z. sum_below n (λ l. f l *ℤ w l) -ℤ z) (sum_below-mul_left n m w ∙ ap (λ z. m *ℤ z) total ∙ mul_comm m q)

-- four factors change places
crossed : (a b c e : ℤ) → (a *ℤ b) *ℤ (c *ℤ e) ≡ (b *ℤ e) *ℤ (a *ℤ c)
crossed a b c e = grind (arith, ints, mul_comm, mul_assoc)

-- a pair of points, one on each side, with its weights
pair_nonneg : (dl dj gl gj wl wj : ℤ) → pos 0 ≤ℤ wl → pos 0 ≤ℤ wj → (pos 0 ≤ℤ dl → dj <ℤ pos 0 → pos 0 ≤ℤ (neg_ℤ dj *ℤ gl +ℤ dl *ℤ gj))
    → pos 0 ≤ℤ ((dl *ℤ left dl wl) *ℤ (gj *ℤ right dj wj) +ℤ (gl *ℤ left dl wl) *ℤ (neg_ℤ dj *ℤ right dj wj))
pair_nonneg dl dj gl gj wl wj hl hj both =
    sides dl wl (λ u v. pos 0 ≤ℤ ((dl *ℤ u) *ℤ (gj *ℤ right dj wj) +ℤ (gl *ℤ u) *ℤ (neg_ℤ dj *ℤ right dj wj)))
    (λ near. sides dj wj (λ u v. pos 0 ≤ℤ ((dl *ℤ wl) *ℤ (gj *ℤ v) +ℤ (gl *ℤ wl) *ℤ (neg_ℤ dj *ℤ v)))
    (λ left_too. rw (mul-zero gj, mul-zero (neg_ℤ dj), mul-zero (dl *ℤ wl), mul-zero (gl *ℤ wl)) (pos_nonneg 0))
    (λ far.
    let times = mul_nonneg (wl *ℤ wj) (neg_ℤ dj *ℤ gl +ℤ dl *ℤ gj) (mul_nonneg wl wj hl hj) (both near far) in
    let parts = mul-add (wl *ℤ wj) (neg_ℤ dj *ℤ gl) (dl *ℤ gj) in
    let first : (dl *ℤ wl) *ℤ (gj *ℤ wj) ≡ (wl *ℤ wj) *ℤ (dl *ℤ gj) = crossed dl wl gj wj in
    let second : (gl *ℤ wl) *ℤ (neg_ℤ dj *ℤ wj) ≡ (wl *ℤ wj) *ℤ (neg_ℤ dj *ℤ gl) =
    crossed gl wl (neg_ℤ dj) wj ∙ ap (λ z. (wl *ℤ wj) *ℤ z) (mul_comm gl (neg_ℤ dj)) in
    omega (arith, linear)))
    (λ far. rw (mul-zero dl, mul-zero gl, zero-mul (gj *ℤ right dj wj), zero-mul (neg_ℤ dj *ℤ right dj wj)) (pos_nonneg 0))

-- ---- weights on the points, where a number bounds the corners
module _ (n : ℕ) (f d : ℕ → ℤ) (b m : ℤ) (corners : BoundsCorners n f d b m) (weight : ℕ → ℕ) where
  -- what a point costs above the bound
  abbrev excess : ℕ → ℤ
  excess l = f l -ℤ m

  abbrev near_weight : ℕ → ℤ
  near_weight l = left (d l) (pos (weight l))

  abbrev far_weight : ℕ → ℤ
  far_weight l = right (d l) (pos (weight l))

  abbrev near : ℤ
  near = sum_below n (λ l. d l *ℤ near_weight l)

  abbrev far : ℤ
  far = sum_below n (λ l. neg_ℤ (d l) *ℤ far_weight l)

  abbrev near_excess : ℤ
  near_excess = sum_below n (λ l. excess l *ℤ near_weight l)

  abbrev far_excess : ℤ
  far_excess = sum_below n (λ l. excess l *ℤ far_weight l)

  near_sign : pos 0 ≤ℤ near
  near_sign =
      sum_below_nonneg n (λ l. d l *ℤ near_weight l)
      (λ l h. nonneg_left (d l) (pos (weight l)) (pos_nonneg (weight l)))

  far_each : (l : ℕ) → pos 0 ≤ℤ (neg_ℤ (d l) *ℤ far_weight l)
  far_each l = nonneg_right (d l) (pos (weight l)) (pos_nonneg (weight l))

  far_sign : pos 0 ≤ℤ far
  far_sign = sum_below_nonneg n (λ l. neg_ℤ (d l) *ℤ far_weight l) (λ l h. far_each l)

  far_turned : far ≡ neg_ℤ (sum_below n (λ l. d l *ℤ far_weight l))
  far_turned =
      sum_below-same n (λ l. neg_ℤ (d l) *ℤ far_weight l) (λ l. neg_ℤ (d l *ℤ far_weight l))
      (λ l h. neg-mul (d l) (far_weight l))
      ∙ sum_below-neg n (λ l. d l *ℤ far_weight l)

  -- by the corners of a point alone
  near_point : (l : ℕ) → l < n → pos 0 ≤ℤ (excess l *ℤ near_weight l)
  near_point l h = sides (d l) (pos (weight l)) (λ u v. pos 0 ≤ℤ (excess l *ℤ u))
      (λ at_left.
      mul_nonneg (excess l) (pos (weight l)) (sub_nonneg m (f l) (corners.point l h at_left)) (pos_nonneg (weight l)))
      (λ at_right. rw (mul-zero (excess l)) (pos_nonneg 0))

  near_excess_sign : pos 0 ≤ℤ near_excess
  near_excess_sign = sum_below_nonneg n (λ l. excess l *ℤ near_weight l) near_point

  -- by the corners of a point with all the reserve that is left
  held_point : (l : ℕ) → l < n → pos 0 ≤ℤ (excess l *ℤ near_weight l +ℤ b *ℤ (d l *ℤ near_weight l))
  held_point l h = sides (d l) (pos (weight l)) (λ u v. pos 0 ≤ℤ (excess l *ℤ u +ℤ b *ℤ (d l *ℤ u)))
      (λ at_left.
      let below = corners.reserve l h at_left in
      let sign : pos 0 ≤ℤ (excess l +ℤ b *ℤ d l) = omega (arith, linear) in
      let times = mul_nonneg (excess l +ℤ b *ℤ d l) (pos (weight l)) sign (pos_nonneg (weight l)) in
      let parts = add-mul (excess l) (b *ℤ d l) (pos (weight l)) in
      let order = mul_assoc b (d l) (pos (weight l)) in
      omega (arith, linear))
      (λ at_right. rw (mul-zero (excess l), mul-zero (d l), mul-zero b) (pos_nonneg 0))

  held_sign : pos 0 ≤ℤ (near_excess +ℤ b *ℤ near)
  held_sign =
      subst (λ z. pos 0 ≤ℤ z)
      (sum_below-add n (λ l. excess l *ℤ near_weight l) (λ l. b *ℤ (d l *ℤ near_weight l))
      ∙ ap (λ z. near_excess +ℤ z) (sum_below-mul_left n b (λ l. d l *ℤ near_weight l)))
      (sum_below_nonneg n (λ l. excess l *ℤ near_weight l +ℤ b *ℤ (d l *ℤ near_weight l)) held_point)

  -- by the corners of pairs
  each_pair : (l j : ℕ) → l < n → j < n → pos 0 ≤ℤ ((d l *ℤ near_weight l) *ℤ (excess j *ℤ far_weight j)
      +ℤ (excess l *ℤ near_weight l) *ℤ (neg_ℤ (d j) *ℤ far_weight j))
  each_pair l j hl hj =
      pair_nonneg (d l) (d j) (excess l) (excess j) (pos (weight l)) (pos (weight j)) (pos_nonneg (weight l))
      (pos_nonneg (weight j)) (λ at_left at_right.
      let below = simp spread at (corners.pair l j hl hj at_left at_right) in
      simp spread (omega (arith, linear)))

  -- no weight right of the cap costs nothing
  no_far_excess : far ≡ pos 0 → far_excess ≡ pos 0
  no_far_excess none =
      sum_below-zero n (λ l. excess l *ℤ far_weight l) (λ l h.
      let most = term-le-sum_below n (λ k. neg_ℤ (d k) *ℤ far_weight k) l h (λ k i. far_each k) in
      let little = weight-le-far (d l) (pos (weight l)) (pos_nonneg (weight l)) in
      let sign = right_nonneg (d l) (pos (weight l)) (pos_nonneg (weight l)) in
      let no_weight : far_weight l ≡ pos 0 = omega (arith, linear) in
      ap (λ z. excess l *ℤ z) no_weight ∙ mul-zero (excess l))

  -- a number that bounds the corners bounds the reduced cost of all weights and reserves
  pub corners_bound : (q r : ℤ) → sum_below n (λ l. pos (weight l)) ≡ q → pos 0 ≤ℤ r → r ≤ℤ sum_below n (λ l. d l *ℤ pos (weight l))
      → (q *ℤ m) ≤ℤ (sum_below n (λ l. f l *ℤ pos (weight l)) +ℤ b *ℤ r)
  corners_bound q r total sign most =
      let whole = excess_sum n f (λ l. pos (weight l)) m q total in
      let cost_parts = sum_parted n excess d (λ l. pos (weight l)) in
      let distance_parts = sum_parted n d d (λ l. pos (weight l)) in
      let turned = far_turned in
      let pairs =
      pairs_nonneg n (λ l. d l *ℤ near_weight l) (λ j. excess j *ℤ far_weight j) (λ l. excess l *ℤ near_weight l)
      (λ j. neg_ℤ (d j) *ℤ far_weight j) each_pair in
      let order = mul_comm near_excess far in
      let room : r ≤ℤ (near -ℤ far) = omega (arith, linear) in
      let positive = near_sign in
      let weighed_up : pos 0 ≤ℤ (near_excess +ℤ far_excess +ℤ b *ℤ r) =
      weighed near far near_excess far_excess b r near_sign sign room near_excess_sign held_sign (omega (arith, linear))
      (λ none. let beyond = far_sign in no_far_excess (omega (arith, linear)))
      far_sign in
      omega (arith, linear)
