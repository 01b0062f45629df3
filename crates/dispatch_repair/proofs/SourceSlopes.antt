-- The slopes of a source beside an output: they are there, have a width, and rise.
use Rattle.std.proofs.Common.{ℕ, ◌-◌, arith, refl, List, length, ℤ, pos, ◌+ℤ◌, ◌-ℤ◌, ◌*ℤ◌, ◌≤ℤ◌, ◌<ℤ◌}
use Rattle.uc_model.specs.Prelude.{rise, run, thermal_unit}
use Rattle.uc_model.specs.declared.instance.Point.{Point}
use Rattle.uc_model.proofs.Common.{linear, pair_there, is_segment}
use Rattle.cost_curves.specs.LeastCost.{IsLeftSlope, IsRightSlope}
use Rattle.cost_curves.specs.LowerHull.{AreLawfulPoints, width_of}
use Rattle.cost_curves.proofs.HullValues.{slope_right}
use Rattle.cost_curves.proofs.Lines.{flatter_trans}
use Rattle.cost_curves.proofs.Slopes.{slope_run, slopes_rise}
use Rattle.dispatch_repair.specs.Prelude.{Instance, Source, FromRenewable, FromThermal, Slope, HasLastSlope, HasNextSlope, IsAtMost, source_at}

pub left-there : (points : List Point) (p : ℤ) → AreLawfulPoints points → pos 0 <ℤ p → p ≤ℤ width_of points → (slope : Slope) × IsLeftSlope points p slope
left-there points p lawful low high =
    let some = lawful.some in
    let pair = pair_there points p 0 (length points - 1) some (omega (arith, some)) (omega (arith, linear, low)) high in
    let lowest = pair.2 in (
      record { rise = rise points pair.0 pair.1; run = run points pair.0 pair.1 },
      record {
        left = pair.0;
        right = pair.1;
        segment = record {
          left_within = lowest.left_within;
          right_within = lowest.right_within;
          segment = is_segment points p pair.0 pair.1 lowest;
          rise = refl;
          run = refl;
        };
        begins = lowest.left;
        reaches = lowest.right;
      },
    )

pub right-there : (points : List Point) (p : ℤ) → AreLawfulPoints points → pos 0 ≤ℤ p → p <ℤ width_of points → (slope : Slope) × IsRightSlope points p slope
right-there points p lawful low high =
    let found = left-there points (p +ℤ pos 1) lawful (omega (arith, linear, low)) (omega (arith, linear, high)) in
    (found.0, slope_right points p found.0 found.1)

-- the slope on the right of an output is at most that on the left of a greater one
pub right-le-left : (points : List Point) (p q : ℤ) (right left : Slope) → p <ℤ q → IsRightSlope points p right → IsLeftSlope points q left
    → (right.rise *ℤ left.run) ≤ℤ (left.rise *ℤ right.run)
right-le-left points p q right left less a b = grind (arith, linear, slopes_rise, less, a, b)

-- ---- a source's slopes
-- its next watt has a slope over a width
pub source_run : (instance : Instance) (s : Source) (watt : ℤ) (slope : Slope) → HasNextSlope instance s watt slope → pos 0 <ℤ slope.run
source_run instance (FromRenewable w) watt slope h = h.1
source_run instance (FromThermal g) watt slope h = slope_run (thermal_unit instance g).points slope h.left h.right h.segment

pub next_run : (instance : Instance) (n : ℕ) (watt : ℤ) (slope : Slope) → HasNextSlope instance (source_at instance n) watt slope → pos 0 <ℤ slope.run
next_run instance n = source_run instance (source_at instance n)

-- its last watt is the next one of a watt less
pub next_of : (instance : Instance) (s : Source) (amount : ℤ) (slope : Slope) → HasLastSlope instance s amount slope → HasNextSlope instance s (amount -ℤ pos 1) slope
next_of instance (FromRenewable w) amount slope h = h
next_of instance (FromThermal g) amount slope h = grind (arith, linear, g, h)

-- ---- slopes one after another
pub at_most_trans : (x y z : Slope) → pos 0 <ℤ x.run → pos 0 <ℤ y.run → pos 0 <ℤ z.run → IsAtMost x y → IsAtMost y z → IsAtMost x z
at_most_trans x y z hx hy hz h g =
    (flatter_trans x.run x.rise y.run y.rise z.run z.rise (omega (arith, linear, hx)) hy (omega (arith, linear, hz))
    (record { products = h }) (record { products = g })).products
