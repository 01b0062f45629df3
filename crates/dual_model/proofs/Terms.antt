-- The term of a cell exists where its cap is at least 0: a number bounds a cell exactly where it bounds the corners,
-- and the greatest one that does is the least of the corners' costs, rounded down.
use Rattle.std.proofs.Common.{◌≡◌, ℕ, zero, suc, ◌+◌, ◌<◌, ◌≢◌, List, length, Bool, false, ◌==◌, refl, sym, ap, subst, ◌∙◌, arith, ⊎_elim, ℤ, pos, ◌+ℤ◌, ◌-ℤ◌, ◌*ℤ◌, neg_ℤ, ◌≤ℤ◌, ◌<ℤ◌, eq-eqb, IsTrue, int_le, int_lt, if◌then◌else◌}
use Rattle.std.specs.Int.{int_min, int_div_euclid}
use Rattle.std.proofs.lemmas.Int.{ints}
use Rattle.std.proofs.lemmas.Bool.{cases_Bool, cond_both, cond-true, cond-false, eqb-true}
use Rattle.uc_model.specs.Prelude.{sum_below, least_below}
use Rattle.uc_model.proofs.Common.{linear, le_refl, le_trans, mul_comm, mul_assoc, mul-zero, mul-one, one-mul, mul-le-mul_left, pos_of_nonneg, sub-mul, add-mul, mul-add, sum_below-same, sum_below-add, sum_below-sub, sum_below-mul_left, sum_below-single, IsFloor-int_div_euclid, IsFloor-greatest, int_le-true, le-int_le, int_lt-true, lt-int_lt, least_below-le, least_below-le-other}
use Rattle.dual_model.specs.Prelude.{Point, IsCellBound, IsTerm, point_of, output_of, weighted_total, weighted_output, weighted_cost}
use Rattle.dual_model.proofs.CellBounds.{BoundsCorners, corners_bound}

-- ---- the greatest number that bounds the corners
-- the least cost, rounded down, of the pairs whose left point is l, and of l alone
unfoldable pub pair_least : ℕ → (ℕ → ℤ) → (ℕ → ℤ) → ℕ → ℤ
pair_least n f d l =
    least_below n (λ j. int_lt (d j) (pos 0)) (λ j. int_div_euclid (neg_ℤ (d j) *ℤ f l +ℤ d l *ℤ f j) (d l -ℤ d j))
    (f l)

-- the same, and with all the reserve that is left
unfoldable pub corner_least : ℕ → (ℕ → ℤ) → (ℕ → ℤ) → ℤ → ℕ → ℤ
corner_least n f d b l = int_min (pair_least n f d l) (f l +ℤ b *ℤ d l)

unfoldable pub greatest_bound : ℕ → (ℕ → ℤ) → (ℕ → ℤ) → ℤ → ℤ
greatest_bound n f d b = least_below n (λ l. int_le (pos 0) (d l)) (corner_least n f d b) (f 0)

-- a number at most each value is at most the least of them
le-least_below : (n : ℕ) (test : ℕ → Bool) (f : ℕ → ℤ) (other k : ℤ) → k ≤ℤ other
    → ((i : ℕ) → i < n → IsTrue (test i) → k ≤ℤ f i) → k ≤ℤ least_below n test f other
le-least_below zero test f other k last each = last
le-least_below (suc n) test f other k last each =
    let rest = le-least_below n test f other k last (λ i l. each i (omega arith)) in
    cond_both (test n) (int_min (f n) (least_below n test f other)) (least_below n test f other) (λ z. k ≤ℤ z)
    (λ here. grind (arith, ints, each n (omega arith) here))
    (λ away. rest)

greatest-le-corner : (n : ℕ) (f d : ℕ → ℤ) (b : ℤ) (l : ℕ) → l < n → pos 0 ≤ℤ d l → greatest_bound n f d b ≤ℤ corner_least n f d b l
unfolding greatest_bound
greatest-le-corner n f d b l hl near = least_below-le n (λ i. int_le (pos 0) (d i)) (corner_least n f d b) (f 0) l hl (le-int_le _ _ near)

bounds_corners : (n : ℕ) (f d : ℕ → ℤ) (b : ℤ) → BoundsCorners n f d b (greatest_bound n f d b)
unfolding corner_least pair_least
bounds_corners n f d b = record {
  point = λ l hl near.
      le_trans _ _ _ (greatest-le-corner n f d b l hl near)
      (le_trans _ _ _ (grind (arith, ints)) (least_below-le-other n (λ j. int_lt (d j) (pos 0)) (pair_cost l) (f l)));
  reserve = λ l hl near. le_trans _ _ _ (greatest-le-corner n f d b l hl near) (grind (arith, ints));
  pair = λ l j hl hj near far.
      let below : greatest_bound n f d b ≤ℤ pair_cost l j =
      le_trans _ _ _ (greatest-le-corner n f d b l hl near)
      (le_trans _ _ _ (grind (arith, ints))
      (least_below-le n (λ i. int_lt (d i) (pos 0)) (pair_cost l) (f l) j hj (lt-int_lt _ _ far))) in
      scaled (d l) (d j) (f l) (f j) (greatest_bound n f d b) near far below;
}
  where
    pair_cost : ℕ → ℕ → ℤ
    pair_cost l j = int_div_euclid (neg_ℤ (d j) *ℤ f l +ℤ d l *ℤ f j) (d l -ℤ d j)

    scaled : (dl dj fl fj m : ℤ) → pos 0 ≤ℤ dl → dj <ℤ pos 0 → m ≤ℤ int_div_euclid (neg_ℤ dj *ℤ fl +ℤ dl *ℤ fj) (dl -ℤ dj)
        → ((dl -ℤ dj) *ℤ m) ≤ℤ (neg_ℤ dj *ℤ fl +ℤ dl *ℤ fj)
    scaled dl dj fl fj m near far below =
        let cost = neg_ℤ dj *ℤ fl +ℤ dl *ℤ fj in
        let width : pos 0 <ℤ (dl -ℤ dj) = omega (arith, linear) in
        let floor = IsFloor-int_div_euclid cost (dl -ℤ dj) width in
        let times = mul-le-mul_left (dl -ℤ dj) m (int_div_euclid cost (dl -ℤ dj)) (omega (arith, linear)) below in
        le_trans _ _ _ times
        (subst (λ z. z ≤ℤ cost) (mul_comm (int_div_euclid cost (dl -ℤ dj)) (dl -ℤ dj)) floor.below)

-- no greater number bounds the corners, where the first point lies at or left of the cap
greatest_of_bounds : (n : ℕ) (f d : ℕ → ℤ) (b k : ℤ) → 0 < n → pos 0 ≤ℤ d 0 → BoundsCorners n f d b k → k ≤ℤ greatest_bound n f d b
unfolding greatest_bound corner_least pair_least
greatest_of_bounds n f d b k some near corners =
    le-least_below n (λ l. int_le (pos 0) (d l)) (corner_least n f d b) (f 0) k (corners.point 0 some near)
    (λ l hl left.
    grind (arith, ints, le-least_below n (λ j. int_lt (d j) (pos 0)) (λ j. int_div_euclid (neg_ℤ (d j) *ℤ f l +ℤ d l *ℤ f j) (d l -ℤ d j)) (f l) k (corners.point l hl (int_le-true _ _ left)) (λ j hj right. divided (d l) (d j) (f l) (f j) (int_le-true _ _ left) (int_lt-true _ _ right) (corners.pair l j hl hj (int_le-true _ _ left) (int_lt-true _ _ right))), corners.reserve l hl (int_le-true _ _ left)))
  where
    divided : (dl dj fl fj : ℤ) → pos 0 ≤ℤ dl → dj <ℤ pos 0 → ((dl -ℤ dj) *ℤ k) ≤ℤ (neg_ℤ dj *ℤ fl +ℤ dl *ℤ fj)
        → k ≤ℤ int_div_euclid (neg_ℤ dj *ℤ fl +ℤ dl *ℤ fj) (dl -ℤ dj)
    divided dl dj fl fj near far below =
        let cost = neg_ℤ dj *ℤ fl +ℤ dl *ℤ fj in
        let width : pos 0 <ℤ (dl -ℤ dj) = omega (arith, linear) in
        IsFloor-greatest cost (dl -ℤ dj) (int_div_euclid cost (dl -ℤ dj)) k width
        (IsFloor-int_div_euclid cost (dl -ℤ dj) width)
        (subst (λ z. z ≤ℤ cost) (mul_comm (dl -ℤ dj) k) below)

-- ---- the corners of a cell's points
abbrev reduced_cost : List Point → ℤ → ℤ → ℕ → ℤ
reduced_cost points k a l = k *ℤ (point_of points l).cost +ℤ a *ℤ output_of points l

abbrev distance : List Point → ℤ → ℕ → ℤ
distance points cap l = cap -ℤ output_of points l

reduced_sum : (points : List Point) (k a : ℤ) (weight : ℕ → ℕ)
    → sum_below (length points) (λ l. reduced_cost points k a l *ℤ pos (weight l))
    ≡ k *ℤ weighted_cost points weight +ℤ a *ℤ weighted_output points weight
reduced_sum points k a weight =
    sum_below-same (length points) _
    (λ l. k *ℤ ((point_of points l).cost *ℤ pos (weight l)) +ℤ a *ℤ (output_of points l *ℤ pos (weight l)))
    (λ l h.
    add-mul (k *ℤ (point_of points l).cost) (a *ℤ output_of points l) (pos (weight l))
    ∙ (λ i. mul_assoc k (point_of points l).cost (pos (weight l)) i
    +ℤ mul_assoc a (output_of points l) (pos (weight l)) i))
    ∙ sum_below-add (length points) (λ l. k *ℤ ((point_of points l).cost *ℤ pos (weight l)))
    (λ l. a *ℤ (output_of points l *ℤ pos (weight l)))
    ∙ (λ i. sum_below-mul_left (length points) k (λ l. (point_of points l).cost *ℤ pos (weight l)) i
    +ℤ sum_below-mul_left (length points) a (λ l. output_of points l *ℤ pos (weight l)) i)

distance_sum : (points : List Point) (cap : ℤ) (weight : ℕ → ℕ) → sum_below (length points) (λ l. distance points cap l *ℤ pos (weight l))
    ≡ cap *ℤ weighted_total points weight -ℤ weighted_output points weight
distance_sum points cap weight =
    sum_below-same (length points) _ (λ l. cap *ℤ pos (weight l) -ℤ output_of points l *ℤ pos (weight l))
    (λ l h. sub-mul cap (output_of points l) (pos (weight l)))
    ∙ sum_below-sub (length points) (λ l. cap *ℤ pos (weight l)) (λ l. output_of points l *ℤ pos (weight l))
    ∙ ap (λ z. z -ℤ weighted_output points weight) (sum_below-mul_left (length points) cap (λ l. pos (weight l)))

-- what bounds the corners bounds the cell
pub cell_bound-corners : (points : List Point) (k a b cap m : ℤ)
    → BoundsCorners (length points) (reduced_cost points k a) (distance points cap) b m → IsCellBound points k a b cap m
cell_bound-corners points k a b cap m corners = record { below = below }
  where
    below : (q : ℕ) (weight : ℕ → ℕ) (r : ℤ) → weighted_total points weight ≡ pos q → pos 0 ≤ℤ r
        → (weighted_output points weight +ℤ r) ≤ℤ (pos q *ℤ cap)
        → (pos q *ℤ m) ≤ℤ (k *ℤ weighted_cost points weight +ℤ a *ℤ weighted_output points weight +ℤ b *ℤ r)
    below q weight r total sign fits =
        let spent = distance_sum points cap weight in
        let same_total = ap (λ z. cap *ℤ z) total in
        let order = mul_comm cap (pos q) in
        let room : r ≤ℤ sum_below (length points) (λ l. distance points cap l *ℤ pos (weight l)) = omega (arith, linear) in
        let bound =
        corners_bound (length points) (reduced_cost points k a) (distance points cap) b m corners weight (pos q) r
        total sign room in
        let costs = reduced_sum points k a weight in
        omega (arith, linear)

-- ---- weights on two points
abbrev weight_at : ℕ → ℕ → ℕ → ℕ
weight_at l u i = if i == l then u else 0

one_weight : (n : ℕ) (h : ℕ → ℤ) (l u : ℕ) → l < n → sum_below n (λ i. h i *ℤ pos (weight_at l u i)) ≡ h l *ℤ pos u
one_weight n h l u hl =
    sum_below-single n (λ i. h i *ℤ pos (weight_at l u i)) l hl
    (λ j hj other. ap (λ w. h j *ℤ pos w) (cond-false (j == l) u 0 (not_same j l other)) ∙ mul-zero (h j))
    ∙ ap (λ w. h l *ℤ pos w) (cond-true (l == l) u 0 (eq-eqb l l refl))
  where
    not_same : (j l : ℕ) → j ≢ l → (j == l) ≡ false
    not_same j l other = ⊎_elim
        (λ (same : IsTrue (j == l)). absurd (other (eqb-true j l same)))
        (λ (differs : (j == l) ≡ false). differs)
        (cases_Bool (j == l))

two_weights : (n : ℕ) (h : ℕ → ℤ) (l u j v : ℕ) → l < n → j < n
    → sum_below n (λ i. h i *ℤ pos (weight_at l u i + weight_at j v i)) ≡ h l *ℤ pos u +ℤ h j *ℤ pos v
two_weights n h l u j v hl hj =
    sum_below-same n _ (λ i. h i *ℤ pos (weight_at l u i) +ℤ h i *ℤ pos (weight_at j v i))
    (λ i hi. mul-add (h i) (pos (weight_at l u i)) (pos (weight_at j v i)))
    ∙ sum_below-add n (λ i. h i *ℤ pos (weight_at l u i)) (λ i. h i *ℤ pos (weight_at j v i))
    ∙ (λ i. one_weight n h l u hl i +ℤ one_weight n h j v hj i)

two_total : (n l u j v : ℕ) → l < n → j < n → sum_below n (λ i. pos (weight_at l u i + weight_at j v i)) ≡ pos (u + v)
two_total n l u j v hl hj =
    sum_below-same n _ (λ i. pos 1 *ℤ pos (weight_at l u i + weight_at j v i)) (λ i hi. sym (one-mul _))
    ∙ two_weights n (λ i. pos 1) l u j v hl hj
    ∙ (λ i. one-mul (pos u) i +ℤ one-mul (pos v) i)

-- what bounds a cell does so at weights on two points
at_two : (points : List Point) (k a b cap m : ℤ) → IsCellBound points k a b cap m → (l u j v : ℕ) (r : ℤ) → l < length points
    → j < length points → pos 0 ≤ℤ r → r ≤ℤ (distance points cap l *ℤ pos u +ℤ distance points cap j *ℤ pos v)
    → (pos (u + v) *ℤ m) ≤ℤ (reduced_cost points k a l *ℤ pos u +ℤ reduced_cost points k a j *ℤ pos v +ℤ b *ℤ r)
at_two points k a b cap m bound l u j v r hl hj sign room =
    let weight = λ (i : ℕ). weight_at l u i + weight_at j v i in
    let total : weighted_total points weight ≡ pos (u + v) = two_total (length points) l u j v hl hj in
    let output = two_weights (length points) (output_of points) l u j v hl hj in
    let spent : (weighted_output points weight +ℤ r) ≤ℤ (pos (u + v) *ℤ cap) =
    let left = sub-mul cap (output_of points l) (pos u) in
    let right = sub-mul cap (output_of points j) (pos v) in
    let parts = add-mul (pos u) (pos v) cap in
    let first = mul_comm (pos u) cap in
    let second = mul_comm (pos v) cap in
    omega (arith, linear) in
    let below = bound.below (u + v) weight r total sign spent in
    let costs = reduced_sum points k a weight in
    let corner = two_weights (length points) (reduced_cost points k a) l u j v hl hj in
    omega (arith, linear)

-- at one point
at_one : (points : List Point) (k a b cap m : ℤ) → IsCellBound points k a b cap m → (l : ℕ) (r : ℤ) → l < length points → pos 0 ≤ℤ r
    → r ≤ℤ distance points cap l → m ≤ℤ (reduced_cost points k a l +ℤ b *ℤ r)
at_one points k a b cap m bound l r hl sign room =
    let full = mul-one (distance points cap l) in
    let none = mul-zero (distance points cap l) in
    let fits : r ≤ℤ (distance points cap l *ℤ pos 1 +ℤ distance points cap l *ℤ pos 0) = omega (arith, linear) in
    let below = at_two points k a b cap m bound l 1 l 0 r hl hl sign fits in
    let whole = mul-one (reduced_cost points k a l) in
    let nothing = mul-zero (reduced_cost points k a l) in
    let once = one-mul m in
    omega (arith, linear)

-- the two distances of a pair, as weights on each other's points
pair_room : (dl dj : ℤ) (u v : ℕ) → neg_ℤ dj ≡ pos u → dl ≡ pos v → pos 0 ≤ℤ (dl *ℤ pos u +ℤ dj *ℤ pos v)
pair_room dl dj u v far near = grind (arith, ints, far, near)

pair_bound : (dl dj fl fj b m : ℤ) (u v : ℕ) → neg_ℤ dj ≡ pos u → dl ≡ pos v
    → (pos (u + v) *ℤ m) ≤ℤ (fl *ℤ pos u +ℤ fj *ℤ pos v +ℤ b *ℤ pos 0)
    → ((dl -ℤ dj) *ℤ m) ≤ℤ (neg_ℤ dj *ℤ fl +ℤ dl *ℤ fj)
pair_bound dl dj fl fj b m u v far near bound = grind (arith, ints, far, near, bound)

-- what bounds the cell bounds the corners
pub corners-cell_bound : (points : List Point) (k a b cap m : ℤ) → IsCellBound points k a b cap m
    → BoundsCorners (length points) (reduced_cost points k a) (distance points cap) b m
corners-cell_bound points k a b cap m bound = record {
  point = λ l hl near.
      let unpaid = mul-zero b in
      let below = at_one points k a b cap m bound l (pos 0) hl (le_refl (pos 0)) near in
      omega (arith, linear);
  reserve = λ l hl near. at_one points k a b cap m bound l (distance points cap l) hl near (le_refl _);
  pair = λ l j hl hj near far.
      let u = pos_of_nonneg (neg_ℤ (distance points cap j)) (omega (arith, linear)) in
      let v = pos_of_nonneg (distance points cap l) near in
      pair_bound (distance points cap l) (distance points cap j) (reduced_cost points k a l)
      (reduced_cost points k a j) b m u.0 v.0 u.1 v.1
      (at_two points k a b cap m bound l u.0 j v.0 (pos 0) hl hj (le_refl (pos 0))
      (pair_room (distance points cap l) (distance points cap j) u.0 v.0 u.1 v.1));
}

-- the term of a cell, computed at the corners
unfoldable pub least_reduced_cost : List Point → ℤ → ℤ → ℤ → ℤ → ℤ
least_reduced_cost points k a b cap = greatest_bound (length points) (reduced_cost points k a) (distance points cap) b

-- it is the term where the cap is at least 0
pub is_term : (points : List Point) (k a b cap : ℤ) → 0 < length points → pos 0 ≤ℤ cap
    → IsTerm points k a b cap (least_reduced_cost points k a b cap)
unfolding least_reduced_cost
is_term points k a b cap some sign =
    let first : pos 0 ≤ℤ distance points cap 0 = omega (arith, linear) in
    record {
      reachable = sign;
      bound =
          cell_bound-corners points k a b cap _
          (bounds_corners (length points) (reduced_cost points k a) (distance points cap) b);
      greatest = λ n bound.
          greatest_of_bounds (length points) (reduced_cost points k a) (distance points cap) b n some first
          (corners-cell_bound points k a b cap n bound);
    }
