-- The greatest slope of the units so far, and one unit more.
use Rattle.std.proofs.Common.{◌≡◌, ℕ, ◌+◌, ◌<◌, Bool, true, false, get_or, subst, arith, ℤ, pos, ◌*ℤ◌, ◌≤ℤ◌, ◌<ℤ◌, below_more, Option, Some, None, MatchOption, int_lt, List, if◌then◌else◌}
use Rattle.std.proofs.lemmas.Int.{ints}
use Rattle.std.proofs.lemmas.List.{get_or_read}
use Rattle.uc_model.specs.Prelude.{cell_at, thermal_count, thermal_unit}
use Rattle.uc_model.proofs.Common.{linear, int_lt-true}
use Rattle.cost_curves.specs.LowerHull.{IsLowerHull}
use Rattle.cost_curves.specs.UnitCurves.{AreCurvesOf}
use Rattle.cost_curves.proofs.Lines.{flatter_trans}
use Rattle.cost_curves.proofs.Slopes.{left_slope-same, slope_run}
use Rattle.opening_tables.specs.Marginal.{Cell, Instance, Printed, Slope, HasSlope, IsAtMost, IsGreatestSlope, IsRunning}
use Rattle.opening_tables.specs.inside.Slopes.{Point, IsCellSlope, IsGreatestOf, steeper_of}

-- ---- slopes are over widths, and ordered
pub run_of : (instance : Instance) (printed : Printed) (g t : ℕ) (slope : Slope) → HasSlope instance printed g t slope → pos 0 <ℤ slope.run
run_of instance printed g t slope has = slope_run (thermal_unit instance g).points slope has.left.left has.left.right has.left.segment

at_most-trans : (first second third : Slope) → pos 0 <ℤ first.run → pos 0 <ℤ second.run → pos 0 <ℤ third.run
    → IsAtMost first second → IsAtMost second third → IsAtMost first third
at_most-trans first second third h k m a b =
    (flatter_trans first.run first.rise second.run second.rise third.run third.rise (omega (arith, linear, h)) k (omega (arith, linear, m))
    (record { products = a }) (record { products = b })).products

-- ---- one unit more
-- what is read of the curves at a unit's place is its own
pub own_hull : (instance : Instance) (curves : List (List Point)) (g : ℕ) (own : List Point) → AreCurvesOf instance curves
    → g < thermal_count instance → own ≡ get_or curves g own → IsLowerHull (thermal_unit instance g).points own
own_hull instance curves g own are within is = grind (arith, ints, get_or_read, are, within, is)

-- the unit's own slope, if it runs
abbrev pub IsOwnSlope : Instance → Printed → ℕ → ℕ → Option Slope → Type 0
IsOwnSlope instance printed t g own = MatchOption own (¬ IsRunning (cell_at printed g t)) (HasSlope instance printed g t)

-- a slope that is at least that of unit n, and each of the units before
greatest_of : (instance : Instance) (printed : Printed) (t n unit : ℕ) (slope : Slope) → unit < n + 1 → HasSlope instance printed unit t slope
    → ((g : ℕ) (other : Slope) → g < n → HasSlope instance printed g t other → IsAtMost other slope)
    → ((other : Slope) → HasSlope instance printed n t other → IsAtMost other slope)
    → IsGreatestSlope instance printed t (n + 1) slope
greatest_of instance printed t n unit slope within has before last = record {
  unit = unit;
  within = within;
  attained = has;
  greatest = λ g other h. below_more (λ k. (a : Slope) → HasSlope instance printed k t a → IsAtMost a slope) n (λ k m a. before k a m) last g h other;
}

own_greatest : (instance : Instance) (printed : Printed) (t n : ℕ) (slope other : Slope) → HasSlope instance printed n t slope
    → HasSlope instance printed n t other → IsAtMost other slope
own_greatest instance printed t n slope other has is = left_slope-same (thermal_unit instance n).points (cell_at printed n t).p other slope is.left has.left

less_le : (x y : ℤ) → int_lt x y ≡ true → x ≤ℤ y
less_le x y e = let less : x <ℤ y = int_lt-true x y e in omega (arith, linear)

-- the greater of the best slope and the unit's own
chosen : (instance : Instance) (printed : Printed) (t n : ℕ) (best own : Slope) (b : Bool)
    → int_lt (best.rise *ℤ own.run) (own.rise *ℤ best.run) ≡ b → IsGreatestSlope instance printed t n best → HasSlope instance printed n t own
    → IsGreatestSlope instance printed t (n + 1) (if b then own else best)
chosen instance printed t n best own true e greatest has =
    greatest_of instance printed t n n own (omega arith) has
    (λ g other h is.
    at_most-trans other best own (run_of instance printed g t other is) (run_of instance printed greatest.unit t best greatest.attained)
    (run_of instance printed n t own has) (greatest.greatest g other h is) (less_le _ _ e))
    (λ other is. own_greatest instance printed t n own other has is)
chosen instance printed t n best own false e greatest has =
    greatest_of instance printed t n greatest.unit best (omega (arith, greatest.within)) greatest.attained greatest.greatest
    (λ other is.
    at_most-trans other own best (run_of instance printed n t other is) (run_of instance printed n t own has)
    (run_of instance printed greatest.unit t best greatest.attained) (own_greatest instance printed t n own other has is) (grind (arith, ints)))

pub greatest-more : (instance : Instance) (printed : Printed) (t n : ℕ) (before own : Option Slope) → IsGreatestOf instance printed t n before
    → IsOwnSlope instance printed t n own → IsGreatestOf instance printed t (n + 1) (steeper_of before own)
greatest-more instance printed t n None None none idle = below_more (λ g. ¬ IsRunning (cell_at printed g t)) n none idle
greatest-more instance printed t n None (Some own) none has =
    greatest_of instance printed t n n own (omega arith) has
    (λ g other h is. absurd (none g h is.running))
    (λ other is. own_greatest instance printed t n own other has is)
greatest-more instance printed t n (Some best) None greatest idle = grind (arith, ints, greatest_of, best, greatest, idle)
greatest-more instance printed t n (Some best) (Some own) greatest has = grind (arith, ints, chosen, int_lt, best, greatest, has)

-- the unit's own slope by its curve
pub own_slope : (instance : Instance) (printed : Printed) (g t : ℕ) (curve : List Point) (cell : Cell) (own : Option Slope)
    → cell ≡ cell_at printed g t → IsLowerHull (thermal_unit instance g).points curve
    → MatchOption own (¬ IsRunning cell) (IsCellSlope curve cell) → IsOwnSlope instance printed t g own
own_slope instance printed g t curve cell None is hull idle = subst (λ (c : Cell). ¬ IsRunning c) is idle
own_slope instance printed g t curve cell (Some own) is hull has = grind (arith, ints, is, hull, has)
