-- The lower convex hull of points of a production cost: the least production cost at an output above the
-- first point's. Source: the piecewise production cost of the pglib-uc format, which the reference model by
-- Knueven, Ostrowski and Watson takes as weights on the points; the least cost of weights is the lower hull.
--
-- An output is a whole numerator p over a denominator d, in watts.
use Rattle.std.specs.Prelude.{ℕ, zero, suc, ◌*◌, max, Bool, ◌&&◌, ◌||◌, ◌==◌, List, ℤ, pos, ◌+ℤ◌, ◌-ℤ◌, ◌*ℤ◌, unsigned_abs, int_lt, int_le, length, Option, Some, None, if◌then◌else◌}
use Rattle.uc_model.specs.Division.{quotient_up}
use Rattle.uc_model.specs.Sums.{all_below}
use Rattle.uc_model.specs.Points.{Point, point_of, output_of}

-- how far point j lies right of point i, and how far above
abbrev pub run : List Point → ℕ → ℕ → ℤ
run points i j = output_of points j -ℤ output_of points i

abbrev pub rise : List Point → ℕ → ℕ → ℤ
rise points i j = (point_of points j).cost -ℤ (point_of points i).cost

-- point l lies on the line through the points i and j, of which j is right of i, or above it
abbrev pub is_above_line : List Point → ℕ → ℕ → ℕ → Bool
is_above_line points i j l = int_le (rise points i j *ℤ run points i l) (rise points i l *ℤ run points i j)

-- the line from point i to point j, right of it, is a segment of the lower hull: no point lies below it
abbrev pub is_hull_segment : List Point → ℕ → ℕ → Bool
is_hull_segment points i j = int_lt (pos 0) (run points i j) && all_below (length points) (is_above_line points i j)

-- where all points have one output, the hull is a cheapest one of them, a segment of width 0
abbrev pub is_hull_point : List Point → ℕ → Bool
is_hull_point points i =
    all_below (length points) (λ l. int_le (run points i l) (pos 0) && int_le (pos 0) (run points i l))
    && all_below (length points) (λ l. int_le (pos 0) (rise points i l))

-- the output p over d lies on the hull's segment from point i to point j
abbrev pub segment_holds : List Point → ℕ → ℤ → ℕ → ℕ → Bool
segment_holds points d p i j =
    (is_hull_segment points i j || ((i == j) && is_hull_point points i))
    && int_le (pos d *ℤ output_of points i) p && int_le p (pos d *ℤ output_of points j)

-- the first of two answers that is there
abbrev pub or_else : {A : Type 0} → Option A → Option A → Option A
or_else None other = other
or_else (Some a) other = Some a

-- the least number below n that passes the test
abbrev pub first_below : ℕ → (ℕ → Bool) → Option ℕ
first_below zero test = None
first_below (suc n) test = or_else (first_below n test) (if test n then Some n else None)

-- a segment, by the numbers of its ends
pub record Segment : Type 0 where
  pub left : ℕ
  pub right : ℕ

abbrev pub segment_from : ℕ → Option ℕ → Option Segment
segment_from i None = None
segment_from i (Some j) = Some (record { left = i; right = j })

-- the first segment whose left end is below n and that holds p over d
abbrev pub first_segment : List Point → ℕ → ℤ → ℕ → Option Segment
first_segment points d p zero = None
first_segment points d p (suc n) =
    or_else (first_segment points d p n) (segment_from n (first_below (length points) (segment_holds points d p n)))

-- the first segment of the hull that holds p over d
abbrev pub segment_at : List Point → ℕ → ℤ → Option Segment
segment_at points d p = first_segment points d p (length points)

-- a segment's width in watts, which counts as 1 where it is 0
abbrev pub segment_width : List Point → Segment → ℕ
segment_width points s = max 1 (unsigned_abs (run points s.left s.right))

-- how far p over d lies right of a segment's left end, and left of its right end: numerators over d
abbrev pub from_left : List Point → ℕ → ℤ → Segment → ℤ
from_left points d p s = p -ℤ pos d *ℤ output_of points s.left

abbrev pub to_right : List Point → ℕ → ℤ → Segment → ℤ
to_right points d p s = pos d *ℤ output_of points s.right -ℤ p

-- the hull's value at p over d on a segment, rounded up to a micro-dollar
abbrev pub segment_cost : List Point → ℕ → ℤ → Option Segment → ℤ
segment_cost points d p None = pos 0
segment_cost points d p (Some s) =
    (point_of points s.left).cost
    +ℤ quotient_up (rise points s.left s.right *ℤ from_left points d p s) (pos (d * segment_width points s))

-- the hull's value at p over d, rounded up to a micro-dollar; 0 where no segment holds it
abbrev pub hull_cost : List Point → ℕ → ℤ → ℤ
hull_cost points d p = segment_cost points d p (segment_at points d p)
