-- The curves of an instance's thermal units, by the units' numbers. This project's own form.
use Rattle.std.specs.Prelude.{◌≡◌, ℕ, ◌<◌, List, [], length, slice_index_or}
use Rattle.uc_model.specs.Prelude.{thermal_count, thermal_unit}
pub use Rattle.uc_model.specs.declared.instance.Instance.{Instance}
use Rattle.cost_curves.specs.LowerHull.{Point, IsLowerHull}

abbrev pub curve_in : List (List Point) → ℕ → List Point
curve_in curves g = slice_index_or curves g []

-- the corners of the curves of the first n units
pub record AreCurvesTo (instance : Instance) (n : ℕ) (curves : List (List Point)) : Type 0 where
  pub count : length curves ≡ n
  pub curve : (g : ℕ) → g < n → IsLowerHull (thermal_unit instance g).points (curve_in curves g)

-- of all units
abbrev pub AreCurvesOf : Instance → List (List Point) → Type 0
AreCurvesOf instance curves = AreCurvesTo instance (thermal_count instance) curves
