-- How a point joins the corners of the lower hull of the points before it.
use Rattle.std.specs.Prelude.{◌≡◌, ℕ, suc, ◌<◌, Bool, false, List, ◌≤ℤ◌, ◌<ℤ◌, int_le, if◌then◌else◌}
use Rattle.uc_model.specs.Prelude.{point_of}
use Rattle.cost_curves.specs.LowerHull.{Point, IsAbove, IsBelow}

-- a corner lies no further left than a point, and costs no more
abbrev pub is_over : Point → Point → Bool
is_over corner point = if int_le point.mw corner.mw then int_le corner.cost point.cost else false

-- the point lies right of each of the first `count` points, or at its output and below it
pub record IsNext (points : List Point) (count : ℕ) (point : Point) : Type 0 where
  pub right : (l : ℕ) → l < count → (point_of points l).mw ≤ℤ point.mw
  pub below : (l : ℕ) → l < count → point.mw ≤ℤ (point_of points l).mw → point.cost <ℤ (point_of points l).cost

-- the first `kept` corners and the point are those of the lower hull with it
pub record Joins (points : List Point) (count : ℕ) (corners : List Point) (point : Point) (kept : ℕ) : Type 0 where
  -- the point lies on or above the lines from corner to corner
  pub over : (i : ℕ) → suc i < kept → IsAbove (point_of corners i) (point_of corners (suc i)) point
  -- it lies right of the last corner, and no point lies below the line from there to it
  pub right : (i : ℕ) → suc i ≡ kept → (point_of corners i).mw <ℤ point.mw
  pub above : (i : ℕ) → suc i ≡ kept → (l : ℕ) → l < count → IsAbove (point_of corners i) point (point_of points l)
  -- and it lies below the line from the corner before it to the point
  pub strict : (i : ℕ) → suc (suc i) ≡ kept → IsBelow (point_of corners i) point (point_of corners (suc i))
  -- where no corner is kept, all points share its output
  pub alone : kept ≡ 0 → (l : ℕ) → l < count → point.mw ≤ℤ (point_of points l).mw
