-- A segment of the lower hull of lawful points holds each output up to their width and no other.
-- Cite from a crate above by `use Rattle.cost_curves.proofs.HullExists.{segment-there, segment-within}`.
use Rattle.std.proofs.Common.{◌≡◌, ℕ, zero, suc, ◌-◌, ◌<◌, refl, subst, arith, List, length, ℤ, pos, ◌*ℤ◌, ◌≤ℤ◌, ◌<ℤ◌, Some}
use Rattle.std.proofs.lemmas.Bool.{and_parts}
use Rattle.uc_model.specs.Prelude.{point_of, output_of, IsCeiling, quotient_up, Segment, segment_at}
use Rattle.uc_model.proofs.Common.{linear, le_trans, mul-zero, mul_comm, mul_nonneg, pos_nonneg, pos_of_nonneg, le_from_mul, scale-le-scale, sub_nonneg, int_le-true, IsCeiling-least, quotient_up-is, segment_at-holds, first-there, step_there, begin_there}
use Rattle.cost_curves.specs.LowerHull.{Point, AreLawfulPoints, width_of}
use Rattle.cost_curves.specs.LeastCost.{IsSegmentAt}
use Rattle.cost_curves.proofs.JoinedCorners.{rises, outputs-le}
use Rattle.cost_curves.proofs.FirstSegments.{held_over}

-- the first segment that holds p, by its ends
at_ends : (points : List Point) (p : ℤ) (s : Segment) → segment_at points 1 p ≡ Some s → (pos 0 <ℤ p → output_of points s.left <ℤ p)
    → IsSegmentAt points p (point_of points s.left) (point_of points s.right)
at_ends points p s e first = let holds = segment_at-holds points 1 p s e in record {
  left_place = s.left;
  right_place = s.right;
  left_within = holds.left;
  right_within = holds.right;
  left_is = refl;
  right_is = refl;
  holds = holds.held;
  first = first;
}

-- there is one at each whole output
at_whole : (points : List Point) (n : ℕ) → AreLawfulPoints points → pos n ≤ℤ width_of points
    → (s : Segment) × IsSegmentAt points (pos n) (point_of points s.left) (point_of points s.right)
at_whole points zero lawful most = grind (arith, linear, begin_there, rises, at_ends, lawful, most)
at_whole points (suc x) lawful most =
    let found = step_there points x (rises points lawful) most in
    (found.0, at_ends points (pos (suc x)) found.0 found.1.at (λ some. let begins = found.1.begins in omega (arith, linear, begins)))

-- the hull has a segment at each output up to its width
pub segment-there : (points : List Point) (d : ℕ) (p : ℤ) → AreLawfulPoints points → 0 < d → pos 0 ≤ℤ p → p ≤ℤ (pos d *ℤ width_of points)
    → (s : Segment) × (segment_at points d p ≡ Some s)
segment-there points d p lawful some low high =
    let positive : pos 0 <ℤ pos d = omega (arith, linear) in
    let whole = quotient_up p (pos d) in
    let ceiling = quotient_up-is p (pos d) positive in
    let above : pos 0 ≤ℤ whole = le_from_mul (pos d) (pos 0) whole positive (omega (arith, linear, ceiling.above, mul-zero (pos d), mul_comm (pos d) whole)) in
    let within : whole ≤ℤ width_of points = IsCeiling-least p (pos d) whole (width_of points) positive ceiling (subst (λ z. p ≤ℤ z) (mul_comm (pos d) (width_of points)) high) in
    let number = pos_of_nonneg whole above in
    let found = at_whole points number.0 lawful (subst (λ z. z ≤ℤ width_of points) number.1 within) in
    let holds = held_over points d p (pos number.0) _ _ some low (subst (λ z. IsCeiling p (pos d) z) number.1 ceiling) found.1 in
    let first = first-there points d p (length points) found.1.left_place found.1.right_place holds.left holds.right holds.held in
    (first.0, first.1)

-- and at no other
pub segment-within : (points : List Point) (d : ℕ) (p : ℤ) (s : Segment) → AreLawfulPoints points → segment_at points d p ≡ Some s
    → (pos 0 ≤ℤ p) × (p ≤ℤ (pos d *ℤ width_of points))
segment-within points d p s lawful e =
    let holds = segment_at-holds points d p s e in
    let low : pos 0 ≤ℤ output_of points s.left = sub_nonneg _ _ (outputs-le points lawful 0 s.left (omega arith) holds.left) in
    let high : output_of points s.right ≤ℤ width_of points =
    let most = outputs-le points lawful s.right (length points - 1) (omega (arith, holds.right)) (omega (arith, lawful.some)) in omega (arith, linear, most) in
    let both = and_parts _ _ holds.held in
    let begins : (pos d *ℤ output_of points s.left) ≤ℤ p = int_le-true _ _ (and_parts _ _ both.0).1 in
    let reaches : p ≤ℤ (pos d *ℤ output_of points s.right) = int_le-true _ _ both.1 in (
      le_trans _ _ _ (mul_nonneg (pos d) _ (pos_nonneg d) low) begins,
      le_trans _ _ _ reaches (scale-le-scale d _ _ high),
    )
