-- The least production cost at an output over all rational weights on the points, and the segments and slopes of the
-- lower hull. Source: the piecewise production cost of the pglib-uc format, which the reference model by Knueven,
-- Ostrowski and Watson takes as weights on the points.
use Rattle.std.specs.Prelude.{◌≡◌, ℕ, ◌<◌, List, ℤ, pos, ◌*ℤ◌, ◌≤ℤ◌, ◌<ℤ◌, length, IsTrue}
use Rattle.uc_model.specs.Prelude.{point_of, output_of, weighted_total, weighted_output, weighted_cost, rise, run, is_hull_segment, segment_holds}
pub use Rattle.uc_model.specs.declared.instance.Point.{Point}
pub use Rattle.cost_curves.specs.declared.slope.Slope.{Slope}

-- some weights at the output p over d, whole over a denominator q, cost at most m
pub record CostsAtMost (points : List Point) (d : ℕ) (p m : ℤ) : Type 0 where
  pub q : ℕ
  pub weight : ℕ → ℕ
  pub positive : 0 < q
  pub total : weighted_total points weight ≡ pos q
  pub output : pos d *ℤ weighted_output points weight ≡ pos q *ℤ p
  pub cost : weighted_cost points weight ≤ℤ (pos q *ℤ m)

-- n is the least whole number that isn't below the least cost of weights at the output p over d
pub record IsLeastCostUp (points : List Point) (d : ℕ) (p n : ℤ) : Type 0 where
  pub reached : CostsAtMost points d p n
  pub least : (m : ℤ) → CostsAtMost points d p m → n ≤ℤ m

-- two of the points are the ends of a segment of the lower hull that holds output p, and not its left end alone unless p is 0
pub record IsSegmentAt (points : List Point) (p : ℤ) (left right : Point) : Type 0 where
  pub left_place : ℕ
  pub right_place : ℕ
  pub left_within : left_place < length points
  pub right_within : right_place < length points
  pub left_is : left ≡ point_of points left_place
  pub right_is : right ≡ point_of points right_place
  pub holds : IsTrue (segment_holds points 1 p left_place right_place)
  pub first : pos 0 <ℤ p → output_of points left_place <ℤ p

-- the slope of a segment of the lower hull, between two of the points
pub record IsSlopeOf (points : List Point) (slope : Slope) (left right : ℕ) : Type 0 where
  pub left_within : left < length points
  pub right_within : right < length points
  pub segment : IsTrue (is_hull_segment points left right)
  pub rise : slope.rise ≡ rise points left right
  pub run : slope.run ≡ run points left right

-- the slope of the lower hull on the left of output p, and on its right
pub record IsLeftSlope (points : List Point) (p : ℤ) (slope : Slope) : Type 0 where
  pub left : ℕ
  pub right : ℕ
  pub segment : IsSlopeOf points slope left right
  pub begins : output_of points left <ℤ p
  pub reaches : p ≤ℤ output_of points right

pub record IsRightSlope (points : List Point) (p : ℤ) (slope : Slope) : Type 0 where
  pub left : ℕ
  pub right : ℕ
  pub segment : IsSlopeOf points slope left right
  pub begins : output_of points left ≤ℤ p
  pub reaches : p <ℤ output_of points right
