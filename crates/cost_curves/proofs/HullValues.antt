-- What the corners of a lower hull say about the points.
-- Cite from a crate above by `use Rattle.cost_curves.proofs.HullValues.{segment_is}`.
use Rattle.std.proofs.Common.{◌≡◌, ℕ, suc, ◌<◌, ⊎_elim, refl, sym, subst, ◌∙◌, arith, List, length, ℤ, pos, ◌+ℤ◌, ◌-ℤ◌, ◌≤ℤ◌, ◌<ℤ◌, IsTrue, int_le, int_lt, ◌==◌, ◌&&◌}
use Rattle.std.proofs.lemmas.Bool.{and_from, or_left, or_right, eq-eqb}
use Rattle.uc_model.specs.Prelude.{all_below, point_of, output_of, run, rise, is_hull_segment, is_hull_point}
use Rattle.uc_model.proofs.Common.{holds_from, linear, le_antisymm, le-int_le, lt-int_lt, all_below-from}
use Rattle.cost_curves.specs.LowerHull.{Point, IsLawfulPoint, AreLawfulCorners, IsAbove, IsLowerHull, width_of}
use Rattle.cost_curves.specs.LeastCost.{Slope, IsSegmentAt, IsLeftSlope, IsRightSlope}
use Rattle.cost_curves.specs.inside.Places.{HoldsOutput}
use Rattle.cost_curves.proofs.Lines.{sub_positive}
use Rattle.cost_curves.proofs.JoinedCorners.{outputs-le}

-- an output lies right of the low corner, and not right of the high one
pub record LiesBetween (corners : List Point) (p : ℤ) (low high : ℕ) : Type 0 where
  pub order : low < high
  pub within : high < length corners
  pub begins : output_of corners low <ℤ p
  pub reaches : p ≤ℤ output_of corners high

-- ---- where the corners lie
pub run_is : (points : List Point) (a b : ℕ) → run points a b ≡ (point_of points b).mw -ℤ (point_of points a).mw
run_is points a b = omega (arith, linear)

-- the first corner has the first point's output
pub starts : (points corners : List Point) → IsLowerHull points corners → 0 < length corners → (point_of corners 0).mw ≡ (point_of points 0).mw
starts points corners whole some =
    let found = whole.hull.place 0 some in
    le_antisymm _ _ (whole.hull.first 0 whole.lawful.some)
    (subst (λ (x : Point). (point_of points 0).mw ≤ℤ x.mw) (sym found.2) (outputs-le points whole.lawful 0 found.0 (omega arith) found.1))

pub output_is : (points corners : List Point) → IsLowerHull points corners → 0 < length corners → (i l : ℕ) → point_of corners i ≡ point_of points l
    → output_of corners i ≡ output_of points l
output_is points corners whole some i l e = λ t. (e t).mw -ℤ starts points corners whole some t

-- the points rise to as much as the corners
pub width_is : (points corners : List Point) → IsLowerHull points corners → (n m : ℕ) → suc n ≡ length corners → suc m ≡ length points
    → output_of corners n ≡ output_of points m
width_is points corners whole n m end last =
    let found = whole.hull.place n (omega arith) in
    let up = whole.hull.last n end m (omega arith) in
    let down = subst (λ (x : Point). x.mw ≤ℤ (point_of points m).mw) (sym found.2) (outputs-le points whole.lawful found.0 m (omega (arith, found.1)) (omega arith)) in
    λ t. le_antisymm (point_of corners n).mw (point_of points m).mw down up t -ℤ starts points corners whole (omega arith) t

pub lawful_corners : (points corners : List Point) → IsLowerHull points corners → AreLawfulCorners corners
lawful_corners points corners whole = record {
  some = whole.hull.some whole.lawful.some;
  each = λ i h. let found = whole.hull.place i h in subst IsLawfulPoint (sym found.2) (whole.lawful.each found.0 found.1);
  rising = whole.hull.rising;
}

-- ---- a line from one corner to the next is a segment of the hull
-- the places of two corners, between which no point lies below the line
pub record Line (points corners : List Point) (i : ℕ) : Type 0 where
  pub left : ℕ
  pub right : ℕ
  pub left_within : left < length points
  pub right_within : right < length points
  pub left_is : point_of corners i ≡ point_of points left
  pub right_is : point_of corners (suc i) ≡ point_of points right
  pub rising : (point_of points left).mw <ℤ (point_of points right).mw
  pub above : (l : ℕ) → l < length points → IsAbove (point_of points left) (point_of points right) (point_of points l)

pub line : (points corners : List Point) → IsLowerHull points corners → (i : ℕ) → suc i < length corners → Line points corners i
line points corners whole i h =
    let first = whole.hull.place i (omega arith) in
    let second = whole.hull.place (suc i) h in
    record {
      left = first.0;
      left_within = first.1;
      left_is = first.2;
      rising = grind (arith, linear, points, second, first, corners, i, whole, h);
      right = second.0;
      right_within = second.1;
      right_is = second.2;
      above = λ l hl. grind (arith, linear, points, second, l, first, corners, i, whole, h, hl);
    }

pub line-segment : (points corners : List Point) (i : ℕ) (line : Line points corners i) → IsTrue (is_hull_segment points line.left line.right)
line-segment points corners i line = grind (arith, linear, and_from, int_lt, lt-int_lt, run_is, sub_positive, all_below-from, le-int_le)

-- ---- a corner that is alone
pub alone-point : (points corners : List Point) → IsLowerHull points corners → length corners ≡ 1 → (a : ℕ) → point_of corners 0 ≡ point_of points a
    → IsTrue (is_hull_point points a)
alone-point points corners whole only a e =
    and_from (all_below (length points) (λ l. int_le (run points a l) (pos 0) && int_le (pos 0) (run points a l))) (all_below (length points) (λ l. int_le (pos 0) (rise points a l)))
    (all_below-from (length points) (λ l. int_le (run points a l) (pos 0) && int_le (pos 0) (run points a l))
    (λ l h. and_from (int_le (run points a l) (pos 0)) (int_le (pos 0) (run points a l))
    (le-int_le (run points a l) (pos 0) (subst (λ z. z ≤ℤ pos 0) (sym (run_is points a l)) (omega (arith, linear, below l h))))
    (le-int_le (pos 0) (run points a l) (subst (λ z. pos 0 ≤ℤ z) (sym (run_is points a l)) (omega (arith, linear, right l h))))))
    (all_below-from (length points) (λ l. int_le (pos 0) (rise points a l)) (λ l h. le-int_le (pos 0) (rise points a l) (omega (arith, linear, lowest l h))))
  where
    right : (l : ℕ) → l < length points → (point_of points a).mw ≤ℤ (point_of points l).mw
    right l h = subst (λ (x : Point). x.mw ≤ℤ (point_of points l).mw) e (whole.hull.first l h)

    below : (l : ℕ) → l < length points → (point_of points l).mw ≤ℤ (point_of points a).mw
    below l h = subst (λ (x : Point). (point_of points l).mw ≤ℤ x.mw) e (whole.hull.last 0 (sym only) l h)

    lowest : (l : ℕ) → l < length points → (point_of points a).cost ≤ℤ (point_of points l).cost
    lowest l h = subst (λ (x : Point). x.cost ≤ℤ (point_of points l).cost) e
        (whole.hull.lowest 0 (sym only) l h (whole.hull.first l h))

-- ---- the segment that holds an output
pub segment_is : (points corners : List Point) (p : ℤ) (i j : ℕ) → IsLowerHull points corners → HoldsOutput corners p i j
    → IsSegmentAt points p (point_of corners i) (point_of corners j)
segment_is points corners p i j whole holds = ⊎_elim alone pair holds.beside
  where
    some : 0 < length corners
    some = let h = holds.left_within in omega arith

    alone : (i ≡ j) × (length corners ≡ 1) → IsSegmentAt points p (point_of corners i) (point_of corners j)
    alone both =
        let first : 0 ≡ i = omega (arith, both.1, holds.left_within) in
        let second : 0 ≡ j = omega (arith, both.1, holds.right_within) in
        let found = whole.hull.place 0 some in
        let level = output_is points corners whole some 0 found.0 found.2 in
        let begins = subst (λ k. output_of corners k ≤ℤ p) (sym first) holds.begins in
        let reaches = subst (λ k. p ≤ℤ output_of corners k) (sym second) holds.reaches in
        let right = subst (λ k. pos 0 <ℤ p → output_of corners k <ℤ p) (sym first) holds.first in
        subst (λ k. IsSegmentAt points p (point_of corners k) (point_of corners j)) first
        (subst (λ k. IsSegmentAt points p (point_of corners 0) (point_of corners k)) second
        (record {
          left_place = found.0;
          right_place = found.0;
          left_within = found.1;
          right_within = found.1;
          left_is = found.2;
          right_is = found.2;
          holds = holds_from points p found.0 found.0
              (or_right (is_hull_segment points found.0 found.0) ((found.0 == found.0) && is_hull_point points found.0)
              (and_from (found.0 == found.0) (is_hull_point points found.0) (eq-eqb found.0 found.0 refl) (alone-point points corners whole both.1 found.0 found.2)))
              (subst (λ z. z ≤ℤ p) level begins) (subst (λ z. p ≤ℤ z) level reaches);
          first = λ h. subst (λ z. z <ℤ p) level (right h);
        }))

    pair : j ≡ suc i → IsSegmentAt points p (point_of corners i) (point_of corners j)
    pair next =
        let found = line points corners whole i (subst (λ k. k < length corners) next holds.right_within) in
        let left = output_is points corners whole some i found.left found.left_is in
        let right = output_is points corners whole some (suc i) found.right found.right_is in
        let reaches = subst (λ k. p ≤ℤ output_of corners k) next holds.reaches in
        subst (λ k. IsSegmentAt points p (point_of corners i) (point_of corners k)) (sym next)
        (record {
          left_place = found.left;
          right_place = found.right;
          left_within = found.left_within;
          right_within = found.right_within;
          left_is = found.left_is;
          right_is = found.right_is;
          holds = holds_from points p found.left found.right
              (or_left (is_hull_segment points found.left found.right) ((found.left == found.right) && is_hull_point points found.left) (line-segment points corners i found))
              (subst (λ z. z ≤ℤ p) left holds.begins) (subst (λ z. p ≤ℤ z) right reaches);
          first = λ h. subst (λ z. z <ℤ p) left (holds.first h);
        })

-- ---- slopes
pub slope_is : (points corners : List Point) (p : ℤ) (i : ℕ) (slope : Slope) → IsLowerHull points corners → suc i < length corners
    → output_of corners i <ℤ p → p ≤ℤ output_of corners (suc i)
    → slope.rise ≡ (point_of corners (suc i)).cost -ℤ (point_of corners i).cost
    → slope.run ≡ (point_of corners (suc i)).mw -ℤ (point_of corners i).mw
    → IsLeftSlope points p slope
slope_is points corners p i slope whole h begins reaches rise_is run_of =
    let found = line points corners whole i h in
    let some : 0 < length corners = omega arith in
    record {
      left = found.left;
      right = found.right;
      segment = record {
        left_within = found.left_within;
        right_within = found.right_within;
        segment = line-segment points corners i found;
        rise = rise_is ∙ (λ t. (found.right_is t).cost -ℤ (found.left_is t).cost);
        run = run_of ∙ (λ t. (found.right_is t).mw -ℤ (found.left_is t).mw) ∙ sym (run_is points found.left found.right);
      };
      begins = subst (λ z. z <ℤ p) (output_is points corners whole some i found.left found.left_is) begins;
      reaches = subst (λ z. p ≤ℤ z) (output_is points corners whole some (suc i) found.right found.right_is) reaches;
    }

-- the slope on the left of the next output is that on the right of this one: outputs are whole
pub slope_right : (points : List Point) (p : ℤ) (slope : Slope) → IsLeftSlope points (p +ℤ pos 1) slope → IsRightSlope points p slope
slope_right points p slope left = grind (arith, linear, left)

pub whole_width : (points corners : List Point) → IsLowerHull points corners → width_of corners ≡ width_of points
whole_width points corners whole = grind (arith, linear, width_is, whole)
