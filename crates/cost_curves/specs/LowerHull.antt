-- The lower convex hull of a unit's points by its corners: the points that no line between two others passes below.
-- Source: the lower hull of points in the plane, as the monotone chain of A. M. Andrew gives it ("Another efficient
-- algorithm for convex hulls in two dimensions", Information Processing Letters 9, 1979).
use Rattle.std.specs.Prelude.{◌≡◌, ℕ, suc, ◌-◌, ◌<◌, Bool, List, ℤ, ◌-ℤ◌, ◌*ℤ◌, ◌≤ℤ◌, ◌<ℤ◌, int_le, length}
use Rattle.uc_model.specs.Prelude.{point_of, output_of, IsPower, IsCost}
pub use Rattle.uc_model.specs.declared.instance.Point.{Point}

-- a point within the limits
pub record IsLawfulPoint (point : Point) : Type 0 where
  pub output : IsPower point.mw
  pub cost : IsCost point.cost

-- the points of a unit: one or more, within the limits, by rising output, of which some may share one
pub record AreLawfulPoints (points : List Point) : Type 0 where
  pub some : 0 < length points
  pub each : (l : ℕ) → l < length points → IsLawfulPoint (point_of points l)
  pub rising : (l : ℕ) → suc l < length points → (point_of points l).mw ≤ℤ (point_of points (suc l)).mw

-- the output of the last point above the first one's
abbrev pub width_of : List Point → ℤ
width_of points = output_of points (length points - 1)

-- a point lies on the line from `left` to `right`, a point right of it, or above it
abbrev pub IsAbove : Point → Point → Point → Type 0
IsAbove left right point = ((right.cost -ℤ left.cost) *ℤ (point.mw -ℤ left.mw)) ≤ℤ ((point.cost -ℤ left.cost) *ℤ (right.mw -ℤ left.mw))

abbrev pub is_above : Point → Point → Point → Bool
is_above left right point = int_le ((right.cost -ℤ left.cost) *ℤ (point.mw -ℤ left.mw)) ((point.cost -ℤ left.cost) *ℤ (right.mw -ℤ left.mw))

-- a point lies below the line from `left` to `right`, a point right of it
abbrev pub IsBelow : Point → Point → Point → Type 0
IsBelow left right point = ((point.cost -ℤ left.cost) *ℤ (right.mw -ℤ left.mw)) <ℤ ((right.cost -ℤ left.cost) *ℤ (point.mw -ℤ left.mw))

-- `corners` are the corners of the lower hull of the first `count` points
pub record HullOfFirst (points : List Point) (count : ℕ) (corners : List Point) : Type 0 where
  -- there is one, if there is a point
  pub some : 0 < count → 0 < length corners
  -- each is one of the points
  pub place : (i : ℕ) → i < length corners → (l : ℕ) × (l < count) × (point_of corners i ≡ point_of points l)
  -- their outputs rise
  pub rising : (i : ℕ) → suc i < length corners → (point_of corners i).mw <ℤ (point_of corners (suc i)).mw
  -- and their slopes: each lies below the line between the ones beside it, so none is in the middle of a straight run
  pub strict : (i : ℕ) → suc (suc i) < length corners → IsBelow (point_of corners i) (point_of corners (suc (suc i))) (point_of corners (suc i))
  -- no point lies below the line from one to the next
  pub above : (i : ℕ) → suc i < length corners → (l : ℕ) → l < count → IsAbove (point_of corners i) (point_of corners (suc i)) (point_of points l)
  -- no point lies left of the first corner, or right of the last one, or below it
  pub first : (l : ℕ) → l < count → (point_of corners 0).mw ≤ℤ (point_of points l).mw
  pub last : (i : ℕ) → suc i ≡ length corners → (l : ℕ) → l < count → (point_of points l).mw ≤ℤ (point_of corners i).mw
  pub lowest : (i : ℕ) → suc i ≡ length corners → (l : ℕ) → l < count → (point_of corners i).mw ≤ℤ (point_of points l).mw
      → (point_of corners i).cost ≤ℤ (point_of points l).cost

-- `corners` are the corners of the lower hull of a unit's points
pub record IsLowerHull (points corners : List Point) : Type 0 where
  pub lawful : AreLawfulPoints points
  pub hull : HullOfFirst points (length points) corners

-- what any list of corners has: one or more, within the limits, of rising outputs
pub record AreLawfulCorners (corners : List Point) : Type 0 where
  pub some : 0 < length corners
  pub each : (i : ℕ) → i < length corners → IsLawfulPoint (point_of corners i)
  pub rising : (i : ℕ) → suc i < length corners → (point_of corners i).mw <ℤ (point_of corners (suc i)).mw
