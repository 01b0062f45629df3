-- The slopes of a lower hull rise: a segment that begins left of where another ends is no steeper. So an output has one slope on
-- its left, as a fraction of whatever numbers.
-- Cite from a crate above by `use Rattle.cost_curves.proofs.Slopes.{slopes_rise}`.
use Rattle.std.proofs.Common.{◌≡◌, ℕ, ◌<◌, sym, subst, arith, List, length, ℤ, pos, ◌+ℤ◌, ◌*ℤ◌, ◌≤ℤ◌, ◌<ℤ◌, IsTrue, int_lt}
use Rattle.std.proofs.lemmas.Bool.{and_parts}
use Rattle.uc_model.specs.Prelude.{output_of, rise, run, is_hull_segment, is_above_line, all_below}
use Rattle.uc_model.proofs.Common.{linear, spread, int_le-true, int_lt-true, all_below-at}
use Rattle.cost_curves.specs.LeastCost.{Point, Slope, IsLeftSlope, IsSlopeOf}
use Rattle.cost_curves.proofs.Lines.{flatter_trans}

-- what a segment of the hull is
record IsSegment (points : List Point) (i j : ℕ) : Type 0 where
  wide : pos 0 <ℤ run points i j
  above : (l : ℕ) → l < length points → (rise points i j *ℤ run points i l) ≤ℤ (rise points i l *ℤ run points i j)

segment_parts : (points : List Point) (i j : ℕ) → IsTrue (is_hull_segment points i j) → IsSegment points i j
segment_parts points i j h =
    let parts = and_parts (int_lt (pos 0) (run points i j)) (all_below (length points) (is_above_line points i j)) h in
    record {
      wide = int_lt-true (pos 0) (run points i j) parts.0;
      above = λ l hl. int_le-true _ _ (all_below-at (length points) (is_above_line points i j) parts.1 l hl);
    }

-- with rises and runs that add up, what lies above a line from its left end lies flatter towards its right end
turned : (r w ra a rb b : ℤ) → w ≡ a +ℤ b → r ≡ ra +ℤ rb → (r *ℤ a) ≤ℤ (ra *ℤ w) → (rb *ℤ w) ≤ℤ (r *ℤ b)
turned r w ra a rb b hw hr h = grind (arith, linear, spread, hw, hr, h)

pub slopes_rise : (points : List Point) (i j k m : ℕ) → j < length points → k < length points
    → IsTrue (is_hull_segment points i j) → IsTrue (is_hull_segment points k m) → output_of points k <ℤ output_of points j
    → (rise points k m *ℤ run points i j) ≤ℤ (rise points i j *ℤ run points k m)
slopes_rise points i j k m hj hk first second begins =
    let a = segment_parts points i j first in
    let b = segment_parts points k m second in
    let steep : (rise points k j *ℤ run points i j) ≤ℤ (rise points i j *ℤ run points k j) =
    turned (rise points i j) (run points i j) (rise points i k) (run points i k) (rise points k j) (run points k j)
    (omega (arith, linear)) (omega (arith, linear)) (a.above k hk) in
    let wide : pos 0 <ℤ run points k j = omega (arith, linear, begins) in
    (flatter_trans (run points k m) (rise points k m) (run points k j) (rise points k j) (run points i j) (rise points i j)
    (omega (arith, linear, b.wide)) wide (omega (arith, linear, a.wide))
    (record { products = b.above j hj }) (record { products = steep })).products

-- a slope is over a width
pub slope_run : (points : List Point) (slope : Slope) (left right : ℕ) → IsSlopeOf points slope left right → pos 0 <ℤ slope.run
slope_run points slope left right is = subst (λ z. pos 0 <ℤ z) (sym is.run) (segment_parts points left right is.segment).wide

-- the slopes on the left of an output are equal
pub left_slope-same : (points : List Point) (p : ℤ) (first second : Slope) → IsLeftSlope points p first → IsLeftSlope points p second
    → (first.rise *ℤ second.run) ≤ℤ (second.rise *ℤ first.run)
left_slope-same points p first second a b = grind (arith, linear, slopes_rise, a, b)
